use Rattle.std.proofs.Common.{◌≡◌, ◌∙◌, true, false, Some, refl, sym, ap, subst, string_bytes}
use Rattle.regex.specs.Strings.{regex_source}
use Rattle.proc_regex.specs.Pattern.{has_match, replaced}
use Rattle.proc_regex.specs.Rewrite.{replaced_by_rule, Rule}
use Rattle.proc_regex.specs.Search.{SearchesFor}
use Rattle.proc_regex.proofs.PatternLemmas.{searched, still_searches, written}
use Rattle.proc_regex.proofs.rewrite.Rewrite.replaced.Goals as goal

pub returns-then-not-is_match-clause-made : goal.returns-then-not-is_match-clause-made
returns-then-not-is_match-clause-made c =
    let pattern = c.args.self.now.pattern in
    let text = c.args.text.now in
    let none : has_match pattern text ≡ false =
    sym (searched pattern c.args.matcher.now text c.requires (λ k. (c.type_inv.text k).fits))
    ∙ sym c.is_match.ensures.found ∙ c.if-not-is_match.true in
    rw none refl

pub returns-clause-made : goal.returns-clause-made
returns-clause-made c =
    let rule = c.self.inside in
    let pattern = regex_source rule.regex in
    let text = c.args.text.now in
    let before : SearchesFor pattern c.args.matcher.now =
    subst (λ (r : Rule). SearchesFor r.pattern c.args.matcher.now) (sym c.self.view_is) c.requires in
    let after = still_searches pattern c.args.matcher.now c.is_match.new.self before c.is_match.ensures.same in
    let some : has_match pattern text ≡ true =
    sym (searched pattern c.args.matcher.now text before (λ k. (c.type_inv.text k).fits))
    ∙ sym c.is_match.ensures.found ∙ c.if-not-is_match.false in
    let made : string_bytes c.in_ok-made.made ≡ replaced pattern rule.replacement text =
    written pattern rule.replacement rule.regex c.is_match.new.self text _ c.self.invariant.3 after
    (λ k. (c.type_inv.text k).fits) (c.in_ok-made.ensures.written.read _ _ c.self.invariant.4) in
    subst (λ (r : Rule). Some (string_bytes c.in_ok-made.made) ≡ replaced_by_rule r text) c.self.view_is
    (rw some (ap Some made))
