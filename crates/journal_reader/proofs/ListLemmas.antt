-- Lists, as the code looks at them.
use Rattle.std.proofs.Common.{◌≡◌, ℕ, zero, suc, ◌+◌, ◌-◌, ◌<◌, ◌≤◌, List, [], ◌∷◌, length, get_or, take, drop, Option}
use Rattle.std.proofs.Common.{Some, None}
use Rattle.std.proofs.Common.{refl, sym, ap, ◌∙◌, arith}
use Rattle.std.specs.Prelude.{nat_lt, slice_get, true}
use Rattle.std.specs.Option.{option_to_list}
use Rattle.std.proofs.lemmas.Option.{slice_get_past}
use Rattle.account.specs.declared.entry.Report.{Report}
use Rattle.journal_reader.specs.States.{is_above}

-- the element at an index, as a list of one
pub one_known : {X : Type 0} (known : List X) (i : ℕ) → i < length known
    → take 1 (drop i known) ≡ option_to_list (slice_get known i)
one_known [] i lt = absurd (omega (arith, lt))
one_known (x ∷ known) zero lt = refl
one_known (x ∷ known) (suc i) lt = one_known known i (omega (arith, lt))

-- past the end there is none
pub none_known : {X : Type 0} (known : List X) (i : ℕ) → length known ≤ i → [] ≡ option_to_list (slice_get known i)
none_known {X} known i le = sym (ap (λ (o : Option X). option_to_list o) (slice_get_past known i le))

-- a group comes behind those of reports where it comes behind the last one
pub above_last : (reports : List Report) (i group : ℕ) (d : Report) → suc i ≡ length reports
    → nat_lt (get_or reports i d).group group ≡ is_above reports group
unfolding is_above
above_last [] i group d e = absurd (omega (arith, e))
above_last (report ∷ []) zero group d e = refl
above_last (report ∷ []) (suc i) group d e = absurd (omega (arith, e))
above_last (report ∷ other ∷ others) zero group d e = absurd (omega (arith, e))
above_last (report ∷ other ∷ others) (suc i) group d e = above_last (other ∷ others) i group d (omega (arith, e))

pub above_none : (reports : List Report) (group : ℕ) → length reports < 1 → true ≡ is_above reports group
unfolding is_above
above_none [] group le = refl
above_none (report ∷ reports) group le = absurd (omega (arith, le))
