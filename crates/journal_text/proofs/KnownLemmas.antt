-- What is known of an entry adds nothing to its line.
use Rattle.std.proofs.Common.{◌≡◌, ℕ, Bool, true, false, List, [], ◌∷◌, ◌++◌, refl, sym, ap, ◌∙◌, append_assoc}
use Rattle.std.specs.Prelude.{codes, decimal, IfSome}
use Rattle.std.specs.List.{AllByRecursion}
use Rattle.std.specs.declared.option.Option.{Option}
use Rattle.std.specs.declared.option.Option.TheVariants.{Some, None}
use Rattle.metric.specs.declared.metric.Content.{Content}
use Rattle.account.specs.Items.{named_by}
use Rattle.account.specs.Says.{reports_of}
use Rattle.account.specs.declared.entry.Report.{Report}
use Rattle.account.specs.declared.entry.Verdict.{Verdict}
use Rattle.account.specs.declared.entry.Entry.{Entry}
use Rattle.account.specs.declared.entry.Entry.TheVariants.{Gather, Ended, Take, Route, Tick, Stop, Begin, Done}
use Rattle.journal_text.specs.JournalText.{beside_text, whole_text, view_text, views_text}
use Rattle.journal_text.specs.JournalText.{routed_text, head_text, entry_text, metric_lines, report_lines}
use Rattle.journal_text.specs.Known.{nothing_known, IsKnownRoute, IsKnown, whole_as, view_as, views_as, routed_as}
use Rattle.journal_text.specs.Known.{head_as, KnownStays, NothingStays}
use Rattle.journal_text.specs.declared.known.Known.{Known}
use Rattle.journal_text.proofs.JournalLemmas.{equal_are_same}

-- a metric beside itself
beside_itself : (m : Content) → beside_text m m ≡ codes "="
unfolding beside_text
beside_itself m = rw ((equal_are_same m m).1 refl) refl

whole_stays : (known : Bool) (item : List Content) (whole : Content) → (known ≡ true → item ≡ whole ∷ [])
    → whole_as known item whole ≡ whole_text item whole
unfolding whole_text
whole_stays true item whole h = sym (ap (λ (i : List Content). whole_text i whole) (h refl) ∙ beside_itself whole)
whole_stays false item whole h = refl

view_stays : (known : Bool) (whole : Content) (view : Option Content)
    → (known ≡ true → IfSome view (λ (v : Content). v ≡ whole)) → view_as known whole view ≡ view_text whole view
unfolding view_as view_text
view_stays known whole None h = refl
view_stays true whole (Some view) h = sym (ap (λ (v : Content). beside_text whole v) (h refl) ∙ beside_itself whole)
view_stays false whole (Some view) h = refl

views_stay : (known : Bool) (whole : Content) (views : List (Option Content))
    → (known ≡ true → AllByRecursion (λ (view : Option Content). IfSome view (λ (v : Content). v ≡ whole)) views)
    → views_as known whole views ≡ views_text whole views
views_stay known whole [] h = refl
views_stay known whole (view ∷ views) h =
    ap (λ (t : List ℕ). (codes " " ++ t) ++ views_as known whole views) (view_stays known whole view (λ k. (h k).0))
    ∙ ap (λ (t : List ℕ). (codes " " ++ view_text whole view) ++ t) (views_stay known whole views (λ k. (h k).1))

routed_stays : (known : Known) (item : List Content) (whole : Option Content) (verdict : Verdict)
    (aggs outs : List (Option Content)) → IsKnownRoute known item whole aggs outs
    → routed_as known item whole verdict aggs outs ≡ routed_text item whole verdict aggs outs
unfolding routed_as routed_text
routed_stays known item None verdict aggs outs h = refl
routed_stays known item (Some whole) verdict aggs outs h =
    rw (
      whole_stays known.whole item whole h.is_item,
      views_stay known.aggs whole aggs h.seen,
      views_stay known.outs whole outs h.passed,
    ) refl

pub known_stays : KnownStays
unfolding head_as head_text
known_stays known item (Gather input moment pieces refused passed filtered metrics group reports) h = refl
known_stays known item (Ended input) h = refl
known_stays known item (Take taken) h = refl
known_stays known item (Route routed whole verdict aggs outs reports) h =
    ap (λ (t : List ℕ). codes "route " ++ decimal routed ++ t) (routed_stays known item whole verdict aggs outs h)
known_stays known item (Tick moment made) h = refl
known_stays known item (Stop moment made) h = refl
known_stays known item (Begin output from to) h = refl
known_stays known item (Done output ok reports) h = refl

-- nothing is known: whatever the entry is, that is so
nothing_is : (item : List Content) (e : Entry) → IsKnown nothing_known item e
nothing_is item (Gather input moment pieces refused passed filtered metrics group reports) = tt
nothing_is item (Ended input) = tt
nothing_is item (Take taken) = tt
nothing_is item (Route routed whole verdict aggs outs reports) = record {
  is_item = λ k. absurd (let e : false ≡ true = k in cc);
  seen = λ k. absurd (let e : false ≡ true = k in cc);
  passed = λ k. absurd (let e : false ≡ true = k in cc);
}
nothing_is item (Tick moment made) = tt
nothing_is item (Stop moment made) = tt
nothing_is item (Begin output from to) = tt
nothing_is item (Done output ok reports) = tt

pub nothing_stays : NothingStays
nothing_stays item e = known_stays nothing_known item e (nothing_is item e)

-- an entry was added, line by line
pub entry_added : (known : Known) (item named : List Content) (reports : List Report) (e : Entry) (t0 t1 t2 t3 : List ℕ)
    → known ≡ nothing_known → named ≡ named_by e → reports ≡ reports_of e → t1 ≡ t0 ++ head_as known item e
    → t2 ≡ t1 ++ metric_lines named → t3 ≡ t2 ++ report_lines reports → t3 ≡ t0 ++ entry_text item e
unfolding entry_text
entry_added known item named reports e t0 t1 t2 t3 none names settled h1 h2 h3 =
    let head : head_as known item e ≡ head_text item e = ap (λ (k : Known). head_as k item e) none
    ∙ nothing_stays item e in
    let ms : List ℕ = metric_lines named in
    let rs : List ℕ = report_lines reports in
    h3 ∙ ap (λ (t : List ℕ). t ++ rs) (h2 ∙ ap (λ (t : List ℕ). t ++ ms) h1 ∙ append_assoc t0 (head_as known item e) ms)
    ∙ append_assoc t0 (head_as known item e ++ ms) rs
    ∙ ap (λ (h : List ℕ). t0 ++ ((h ++ ms) ++ rs)) head
    ∙ ap (λ (xs : List Content). t0 ++ ((head_text item e ++ metric_lines xs) ++ rs)) names
    ∙ ap (λ (xs : List Report). t0 ++ ((head_text item e ++ metric_lines (named_by e)) ++ report_lines xs)) settled
