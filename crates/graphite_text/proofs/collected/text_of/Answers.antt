use Rattle.std.proofs.Common.{◌≡◌, ℕ, List, [], map, subst}
use Rattle.std.specs.Prelude.{IfOk}
use Rattle.format_words.specs.declared.template.TemplatePart.{TemplatePart}
use Rattle.format_words.specs.Views.{now_of}
use Rattle.graphite_text.specs.Applied.{collected, tag_share}
use Rattle.graphite_text.specs.declared.collected.Wanted.{Wanted}
use Rattle.graphite_text.specs.declared.collected.Wanted.TheVariants.{Name, Key, TagOf}
use Rattle.graphite_text.specs.Taken.{joined_view, AreJoined}
use Rattle.graphite_text.specs.Wanted.{share_of, text_of, text_without}
use Rattle.graphite_text.proofs.Taking.{found_some, found_none, name_joined, name_whole, key_joined, key_value}
use Rattle.graphite_text.proofs.Taking.{none_joined}
use Rattle.graphite_text.proofs.collected.text_of.Goals as goal

-- what the parts give to a thing is its text
given : (wanted : Wanted) (separator : List ℕ) (all : List TemplatePart) (segments : List (List ℕ)) (text : List ℕ)
    → AreJoined separator (collected (share_of wanted) all segments) text → text ≡ text_of wanted separator all segments
given Name separator all segments text j = name_joined separator all segments text j
given Key separator all segments text j = key_joined separator all segments text j
given (TagOf key) separator all segments text j = j.joins

-- where they give nothing
none_given : (wanted : Wanted) (separator : List ℕ) (all : List TemplatePart) (segments : List (List ℕ))
    → collected (share_of wanted) all segments ≡ [] → text_without wanted separator segments ≡ text_of wanted separator
    all segments
none_given Name separator all segments none = name_whole separator all segments none
none_given Key separator all segments none = key_value separator all segments none
none_given (TagOf key) separator all segments none = none_joined separator (collected (tag_share key.now) all segments)
    none

pub returns-in-Some : goal.returns-in-Some
returns-in-Some c =
    given c.args.wanted.now c.args.separator.now c.args.parts.now (map now_of c.args.segments.now) _
    (found_some c.args.separator.now (collected (share_of c.args.wanted.now) c.args.parts.now
    (map now_of c.args.segments.now)) c.in_ok-text.field-0 c.in-Some.text c.in-Some.is c.in_ok-text.ensures)

pub returns-in-None : goal.returns-in-None
returns-in-None c =
    subst (λ (wanted : List ℕ). IfOk c.text_without.result (λ text. joined_view text ≡ wanted))
    (none_given c.args.wanted.now c.args.separator.now c.args.parts.now (map now_of c.args.segments.now)
    (found_none c.args.separator.now (collected (share_of c.args.wanted.now) c.args.parts.now
    (map now_of c.args.segments.now)) c.in_ok-text.field-0 c.in-None.is c.in_ok-text.ensures))
    c.text_without.ensures
