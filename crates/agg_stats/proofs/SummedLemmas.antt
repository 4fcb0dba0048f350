-- What is kept of a list of fields is the summary of each key's numbers.
use Rattle.std.proofs.Common.{◌≡◌, ◌≤◌, ℕ, true, false, cond, List, [], ◌∷◌, length, map, filter, refl, sym, ap}
use Rattle.std.proofs.Common.{◌∙◌}
use Rattle.std.specs.List.{fold}
use Rattle.std.specs.Map.{keys_of}
use Rattle.std.specs.Str.{bytes_eq}
use Rattle.std.proofs.lemmas.Slice.Eq.{bytes_eq-Decides}
use Rattle.metric.specs.Draft.{Field}
use Rattle.metric.specs.Pairs.{first_of_each, with_pair}
use Rattle.agg_stats.specs.Folds.{summed, values_of}
use Rattle.agg_stats.specs.Kept.{empty_summary, most, summary_at, with_fields, with_number, Sums}
use Rattle.agg_stats.specs.Summary.{is_number, summary_of, Summary}
use Rattle.metric.specs.Pairs.{put_in}
use Rattle.metric.proofs.GroupLemmas.{made, put_are, put_one, turned}
use Rattle.agg_stats.proofs.SummaryLemmas.{summary_is}

-- a pair is put at its key
put_is : (change : Summary → Summary) (sums : Sums) (key : List ℕ)
    → with_pair sums key (change (summary_at sums key)) ≡ put_in change empty_summary sums key
unfolding with_pair put_in
put_is change [] key = refl
put_is change (pair ∷ sums) key =
    elim (bytes_eq pair.0 key) as (λ t. bytes_eq pair.0 key ≡ t
    → with_pair (pair ∷ sums) key (change (summary_at (pair ∷ sums) key)) ≡ put_in change empty_summary (pair ∷ sums)
    key) [
      | true ↦ λ e. rw (e, turned pair.0 key true e)
          (ap (λ (k : List ℕ). (k, change pair.1) ∷ sums) (sym ((bytes_eq-Decides pair.0 key).0 e)))
      | false ↦ λ e. rw (e, turned pair.0 key false e)
          (ap (λ (rest : Sums). pair ∷ rest) (put_is change sums key))
    ] refl

abbrev key_of : Field → List ℕ
key_of field = field.0

abbrev step : Field → Summary → Summary
step field s = with_number field.1 s

abbrev numbers : List Field → List Field
numbers fields = filter (λ field. is_number field.1) fields

-- fields that are no numbers count for nothing
numbers_alone : (sums : Sums) (fields : List Field) → with_fields sums fields
    ≡ fold (put_one key_of step empty_summary) sums (numbers fields)
numbers_alone sums [] = refl
numbers_alone sums (field ∷ fields) =
    elim (is_number field.1) as (λ t. is_number field.1 ≡ t
    → with_fields (cond t (with_pair sums field.0 (with_number field.1 (summary_at sums field.0))) sums) fields ≡ fold
    (put_one key_of step empty_summary) sums (cond t (field ∷ numbers fields) (numbers fields))) [
      | true ↦ λ e. ap (λ (s : Sums). with_fields s fields) (put_is (with_number field.1) sums field.0)
          ∙ numbers_alone (put_in (with_number field.1) empty_summary sums field.0) fields
      | false ↦ λ e. numbers_alone sums fields
    ] refl

-- the numbers of each key are not too many
abbrev pub AreFew : List Field → Type 0
AreFew fields = (key : List ℕ) → length (filter (λ (field : Field). bytes_eq key field.0) fields) ≤ most

abbrev made_pair : List Field → List ℕ → List ℕ × Summary
made_pair fields key = (key, made key_of step empty_summary key fields)

abbrev summed_pair : List Field → List ℕ → List ℕ × Summary
summed_pair fields key = (key, summary_of (values_of key fields))

each_summary : (fields : List Field) → AreFew fields → (keys : List (List ℕ))
    → map (made_pair fields) keys ≡ map (summed_pair fields) keys
each_summary fields few [] = refl
each_summary fields few (key ∷ keys) =
    let here : made key_of step empty_summary key fields ≡ summary_of (values_of key fields) =
    summary_is (filter (λ (field : Field). bytes_eq key field.0) fields) (few key) in
    λ i. (key, here i) ∷ each_summary fields few keys i

pub summed_are : (fields : List Field) → AreFew (numbers fields) → with_fields [] fields ≡ summed (numbers fields)
summed_are fields few =
    numbers_alone [] fields ∙ put_are key_of step empty_summary (numbers fields)
    ∙ each_summary (numbers fields) few (first_of_each (keys_of (numbers fields)))
