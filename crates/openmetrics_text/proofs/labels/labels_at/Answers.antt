use Rattle.std.proofs.Common.{◌≡◌, ◌∙◌, ℕ, Bool, ◌++◌, ◌∷◌, [], false, List, Ok, get_or, map, eqb, refl, sym, ap, arith}
use Rattle.std.proofs.lemmas.Result.{err_from_is_err_and}
use Rattle.std.proofs.lemmas.Bool.{eqb-true, eqb-false}
use Rattle.std.proofs.lemmas.List.{map-append}
use Rattle.text_parts.specs.Chain.{Fails}
use Rattle.text_parts.specs.declared.error.ReadError.{ReadError}
use Rattle.text_parts.specs.declared.error.ReadError.TheVariants as errors
use Rattle.text_parts.proofs.Items.{Reads, nothing_read, one_more, failed_read, all_read, first_fails, other_fails}
use Rattle.text_parts.proofs.Items.{items_are}
use Rattle.metric.specs.Draft.{Tag}
use Rattle.openmetrics_text.specs.Labels.{label_at, some_labels_at, has_twice, names_of, labels_at, closed_at}
use Rattle.openmetrics_text.specs.Views.{label_view}
use Rattle.openmetrics_text.specs.declared.fault.ExpositionKind.{ExpositionKind}
use Rattle.openmetrics_text.specs.declared.labels.Label.{Label}
use Rattle.openmetrics_text.proofs.LabelLemmas.{named_more}
use Rattle.openmetrics_text.proofs.Offsets.{within, behind_test}
use Rattle.openmetrics_text.proofs.labels.labels_at.Goals as goal
use Rattle.openmetrics_text.proofs.labels.labels_at.Goals.{After-is_at-2}

-- a label that fails fails all, where no closing brace stands before it
label_fails : (line : List ℕ) (i : ℕ) (e : ReadError ExpositionKind) → eqb (get_or line i 0) 125 ≡ false
    → Fails e (some_labels_at line i) → Fails e (labels_at line i)
unfolding labels_at
label_fails line i errors.OutOfMemory none fails = tt
label_fails line i (errors.Fault fault) none fails = rw (none, fails) refl

-- all labels are read, and what stands behind them decides
labels_are : (line : List ℕ) (i behind at : ℕ) (first : Tag) (others labels : List Tag)
    → eqb (get_or line i 0) 125 ≡ false → label_at line i ≡ Ok (first, behind)
    → Reads label_at 44 line behind others at → eqb (get_or line at 0) 44 ≡ false → labels ≡ first ∷ others
    → labels_at line i ≡ closed_at line (labels, at)
unfolding labels_at some_labels_at
labels_are line i behind at first others labels none one reads no_comma are =
    let some = items_are label_at 44 line i behind at first others one
    (all_read label_at 44 line behind others at reads (eqb-false (get_or line at 0) 44 no_comma)) in
    rw (none, some, are) refl

pub returns-in_err-first-clause-gives : goal.returns-in_err-first-clause-gives
unfolding some_labels_at
returns-in_err-first-clause-gives c =
    let p = err_from_is_err_and c.from_residual.result c.from_residual.ensures.1 in
    let line = c.args.line.now in
    rw (p.1, p.2) (label_fails line c.args.i c.in_err-first.field-0.0 (sym c.is_at.ensures.value ∙ c.if-is_at.false)
    (first_fails label_at 44 line c.args.i c.in_err-first.field-0.0 c.in_err-first.ensures.gives))

pub labels-init : goal.labels-init
labels-init c =
    let items : c.push.new.self.items ≡ c.in_ok-first.first ∷ [] =
    c.in_ok-push.ensures.items ∙ ap (λ (ls : List Label). ls ++ c.in_ok-first.first ∷ []) c.requires.empty in
    let view = ap (map label_view) items in (
      c.in_ok-first.ensures.behind,
      rw view (named_more [] (label_view c.in_ok-first.first) refl c.in_ok-first.ensures.filled),
      (
        label_view c.in_ok-first.first,
        c.in_ok-first.behind,
        c.in_ok-first.ensures.gives,
        ([], nothing_read label_at 44 c.args.line.now c.in_ok-first.behind, view),
      ),
    )

pub label_at-requires-in-labels : goal.label_at-requires-in-labels
label_at-requires-in-labels c = record {
  boundary = behind_test c.args.line.now c.labels.at 44 (omega arith)
      (omega arith) c.utf8.line (sym c.is_at-in-labels.ensures.value ∙ c.labels-test.true);
}

pub returns-in_err-label-clause-gives : goal.returns-in_err-label-clause-gives
unfolding some_labels_at
returns-in_err-label-clause-gives c =
    let p = err_from_is_err_and c.from_residual-in_err-label.result c.from_residual-in_err-label.ensures.1 in
    let line = c.args.line.now in
    let comma = eqb-true (get_or line c.labels.at 0) 44 (sym c.is_at-in-labels.ensures.value ∙ c.labels-test.true) in
    let start = c.labels.invariant.2 in
    let so_far = start.3 in
    rw (p.1, p.2) (label_fails line c.args.i c.in_err-label.field-0.0 (sym c.is_at.ensures.value ∙ c.if-is_at.false)
    (other_fails label_at 44 line c.args.i start.1 start.0 c.in_err-label.field-0.0 start.2
    (failed_read label_at 44 line start.1 so_far.0 c.labels.at c.in_err-label.field-0.0 so_far.1
    (within line c.labels.at (omega (arith, comma))) comma c.in_err-label.ensures.gives)))

pub labels-preserved : goal.labels-preserved
labels-preserved c =
    let line = c.args.line.now in
    let comma = eqb-true (get_or line c.labels.at 0) 44 (sym c.is_at-in-labels.ensures.value ∙ c.labels-test.true) in
    let start = c.labels.invariant.2 in
    let so_far = start.3 in
    let view = ap (map label_view) c.in_ok-push-2.ensures.items
    ∙ map-append label_view c.labels.labels.items (c.in_ok-label.label ∷ []) in (
      c.in_ok-label.ensures.behind,
      rw view (named_more (map label_view c.labels.labels.items) (label_view c.in_ok-label.label) c.labels.invariant.1
          c.in_ok-label.ensures.filled),
      (
        start.0,
        start.1,
        start.2,
        (
          so_far.0 ++ label_view c.in_ok-label.label ∷ [],
          one_more label_at 44 line start.1 so_far.0 c.labels.at
              (label_view c.in_ok-label.label) c.in_ok-label.behind so_far.1
              (within line c.labels.at (omega (arith, comma))) comma c.in_ok-label.ensures.gives
              c.in_ok-label.ensures.more,
          view ∙ ap (λ (ls : List Tag). ls ++ label_view c.in_ok-label.label ∷ []) so_far.2,
        ),
      ),
    )

-- what stands behind the labels decides
labels_read : (c : After-is_at-2) → labels_at c.args.line.now c.args.i ≡ closed_at c.args.line.now
    (map label_view c.labels.labels.items, c.labels.at)
labels_read c =
    let start = c.labels.invariant.2 in
    let so_far = start.3 in
    labels_are c.args.line.now c.args.i start.1 c.labels.at start.0 so_far.0 (map label_view c.labels.labels.items)
    (sym c.is_at.ensures.value ∙ c.if-is_at.false) start.2 so_far.1
    (sym c.is_at-in-labels.ensures.value ∙ c.labels-test.false) so_far.2

pub returns-then-not-is_at-clause-gives : goal.returns-then-not-is_at-clause-gives
returns-then-not-is_at-clause-gives c =
    let open_behind = sym c.is_at-2.ensures.value ∙ c.if-not-is_at.true in
    rw c.fault.ensures (labels_read (goal.at.returns-then-not-is_at-clause-gives c).After-is_at-2 ∙ rw open_behind refl)

abbrev have_twice : List Label → Bool
have_twice labels = has_twice [] (names_of (map label_view labels))

pub returns-then-branch-clause-gives : goal.returns-then-branch-clause-gives
returns-then-branch-clause-gives c =
    let brace = sym c.is_at-2.ensures.value ∙ c.if-not-is_at.false in
    let twice = sym (c.in_ok-have_twice.ensures ∙ ap have_twice c.as_slice.ensures.value) ∙ c.if-branch.true in
    rw c.fault-then-branch.ensures (labels_read (goal.at.returns-then-branch-clause-gives c).After-is_at-2
    ∙ rw (brace, twice) refl)

pub returns-clause-gives : goal.returns-clause-gives
returns-clause-gives c =
    let brace = sym c.is_at-2.ensures.value ∙ c.if-not-is_at.false in
    let once = sym (c.in_ok-have_twice.ensures ∙ ap have_twice c.as_slice.ensures.value) ∙ c.if-branch.false in
    labels_read (goal.at.returns-clause-gives c).After-is_at-2 ∙ rw (brace, once) refl
