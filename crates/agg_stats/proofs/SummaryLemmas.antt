-- The summary of a number more.
use Rattle.std.proofs.Common.{◌≡◌, ◌<◌, ◌≤◌, ◌+◌, ◌&&◌, ◌==◌, ◌*◌, ◌+ℤ◌, ℕ, ℤ, pos, true, false, cond, Bool, List, []}
use Rattle.std.proofs.Common.{◌∷◌, ◌++◌, length, map, refl, sym, ap, subst, ◌∙◌, arith, append_assoc, append-nil}
use Rattle.std.proofs.Common.{length-append, rules}
use Rattle.std.specs.Prelude.{nat_lt, unsigned_abs, FitsSigned}
use Rattle.std.specs.Int.{w128, cast_signed, cast_unsigned, int_max, int_min}
use Rattle.std.specs.List.{fold, list_all}
use Rattle.std.proofs.Math.IntN.{+ℤ_assoc, +ℤ_comm}
use Rattle.std.proofs.lemmas.Bool.{lt-ltb, ne_eqb}
use Rattle.std.proofs.lemmas.Int.{to_z-of_z}
use Rattle.std.proofs.lemmas.List.{length-map, map-append}
use Rattle.std.proofs.lemmas.List.Folds.{list_all-append}
use Rattle.std.proofs.lemmas.List.Sums.{fold-append}
use Rattle.metric.specs.Draft.{Field}
use Rattle.metric.specs.Numbers.{billionths_of}
use Rattle.metric.specs.declared.value.Value.{Value}
use Rattle.agg_stats.specs.Kept.{empty_summary, most, with_number}
use Rattle.agg_stats.specs.Summary.{chosen_of, is_int, is_uint, sum_of, summary_of, Summary}

-- ---- the numbers

sum-push : (ns : List ℤ) (n : ℤ) → sum_of (ns ++ n ∷ []) ≡ sum_of ns +ℤ n
unfolding sum_of
sum-push [] n = +ℤ_comm n (pos 0)
sum-push (m ∷ ns) n = ap (λ (s : ℤ). m +ℤ s) (sum-push ns n) ∙ sym (+ℤ_assoc m (sum_of ns) n)

and_true : (t : Bool) → (t && true) ≡ t
and_true true = refl
and_true false = refl

all-push : (p : Value → Bool) (vs : List Value) (v : Value) → list_all p (vs ++ v ∷ []) ≡ (list_all p vs && p v)
all-push p vs v = list_all-append p vs (v ∷ []) ∙ ap (λ (t : Bool). list_all p vs && t) (and_true (p v))

chosen-push : (choice : ℤ → ℤ → ℤ) (vs : List Value) (v : Value)
    → chosen_of choice (map billionths_of (vs ++ v ∷ []))
    ≡ cond (length vs == 0) (billionths_of v) (choice (chosen_of choice (map billionths_of vs)) (billionths_of v))
chosen-push choice [] v = refl
chosen-push choice (w ∷ vs) v =
    let some : (length (w ∷ vs) == 0) ≡ false = ne_eqb (length (w ∷ vs)) 0 (λ e. absurd (omega arith)) in
    rw some
    (ap (fold choice (billionths_of w)) (map-append billionths_of vs (v ∷ []))
    ∙ fold-append choice (billionths_of w) (map billionths_of vs) (billionths_of v ∷ []))

pub summary-push : (vs : List Value) (v : Value) → length vs < most
    → with_number v (summary_of vs) ≡ summary_of (vs ++ v ∷ [])
unfolding with_number
summary-push vs v few =
    let below : nat_lt (length vs) most ≡ true = lt-ltb (length vs) most few in
    rw below (sym (λ i. record {
      count = length-append vs (v ∷ []) i;
      sum = (ap sum_of (map-append billionths_of vs (v ∷ [])) ∙ sum-push (map billionths_of vs) (billionths_of v)) i;
      least = chosen-push int_min vs v i;
      greatest = chosen-push int_max vs v i;
      ints = all-push is_int vs v i;
      uints = all-push is_uint vs v i;
    }))

-- ---- all numbers of a key

abbrev values : List Field → List Value
values fields = map (λ field. field.1) fields

from : (done rest : List Field) → length (done ++ rest) ≤ most
    → fold (λ s field. with_number field.1 s) (summary_of (values done)) rest ≡ summary_of (values (done ++ rest))
from done [] few = ap (λ (fields : List Field). summary_of (values fields)) (sym (append-nil done))
from done (field ∷ rest) few =
    let same : length (values done) ≡ length done = length-map done (λ (field : Field). field.1) in
    let next : with_number field.1 (summary_of (values done)) ≡ summary_of (values (done ++ field ∷ [])) =
    summary-push (values done) field.1 (omega (arith, same, few, length-append done (field ∷ rest)))
    ∙ ap summary_of (sym (map-append (λ (field : Field). field.1) done (field ∷ []))) in
    ap (λ (s : Summary). fold (λ s field. with_number field.1 s) s rest) next
    ∙ from (done ++ field ∷ []) rest (subst (λ (fields : List Field). length fields ≤ most)
    (sym (append_assoc done (field ∷ []) rest)) few)
    ∙ ap (λ (fields : List Field). summary_of (values fields)) (append_assoc done (field ∷ []) rest)

pub summary_is : (fields : List Field) → length fields ≤ most
    → fold (λ s field. with_number field.1 s) empty_summary fields ≡ summary_of (values fields)
unfolding sum_of
summary_is fields few = from [] fields few

-- ---- as the code adds a number

abbrev pub read : ℤ → ℤ
read z = cast_signed w128 (cast_unsigned w128 z)

pub sum_fits : (count : ℕ) (s n : ℤ) → count ≤ 4294967296
    → unsigned_abs s ≤ count * 18446744073709551616000000000 → unsigned_abs n ≤ 18446744073709551616000000000
    → FitsSigned w128 (s +ℤ n)
sum_fits count s n few sum within = search rules

pub sum_read : (s n : ℤ) → FitsSigned w128 s → FitsSigned w128 n → FitsSigned w128 (s +ℤ n)
    → read (read s +ℤ read n) ≡ s +ℤ n
sum_read s n fs fn fa = rw (to_z-of_z w128 s fs, to_z-of_z w128 n fn, to_z-of_z w128 (s +ℤ n) fa) refl

pub bound_read : (count : ℕ) (op : ℤ → ℤ → ℤ) (bound n r : ℤ) → FitsSigned w128 bound → FitsSigned w128 n
    → FitsSigned w128 r → r ≡ cond (count == 0) (read n) (op (read bound) (read n))
    → read r ≡ cond (count == 0) n (op bound n)
bound_read count op bound n r fb fn fr e =
    to_z-of_z w128 r fr ∙ e ∙ rw (to_z-of_z w128 bound fb, to_z-of_z w128 n fn) refl

pub and_then : (r a b q : Bool) → a ≡ true → r ≡ q → q ≡ b → r ≡ (a && b)
and_then r a b q e f g = rw e (f ∙ g)

pub and_else : (r a b : Bool) → a ≡ false → r ≡ false → r ≡ (a && b)
and_else r a b e f = rw e f

pub with_is : (v : Value) (s new : Summary) → s.count < most → new.count ≡ s.count + 1
    → new.sum ≡ s.sum +ℤ billionths_of v
    → new.least ≡ cond (s.count == 0) (billionths_of v) (int_min s.least (billionths_of v))
    → new.greatest ≡ cond (s.count == 0) (billionths_of v) (int_max s.greatest (billionths_of v))
    → new.ints ≡ (s.ints && is_int v) → new.uints ≡ (s.uints && is_uint v) → new ≡ with_number v s
unfolding with_number
with_is v s new few count sum least greatest ints uints =
    let below : nat_lt s.count most ≡ true = lt-ltb s.count most few in
    rw below (λ i. record {
      count = count i;
      sum = sum i;
      least = least i;
      greatest = greatest i;
      ints = ints i;
      uints = uints i;
    })
