-- Lines of an account, as the code goes through their words.
use Rattle.std.proofs.Common.{◌≡◌, ℕ, ◌+◌, ◌<◌, List, [], ◌∷◌, length, get_or, drop, Option}
use Rattle.std.proofs.Common.{Some, None}
use Rattle.std.proofs.Common.{refl, sym, ap, ◌∙◌}
use Rattle.std.specs.Prelude.{map}
use Rattle.std.specs.Borrow.{Bor}
use Rattle.std.proofs.lemmas.List.{drop_more}
use Rattle.journal_reader.specs.Words.{Parts}
use Rattle.journal_reader.specs.AccountReading.{behind_count, behind_counts}

-- what stands at an index, and what is left behind it
pub drop_here : {X : Type 0} (xs : List X) (i : ℕ) (x : X) → i < length xs → x ≡ get_or xs i x
    → drop i xs ≡ x ∷ drop (i + 1) xs
drop_here {X} xs i x lt is = drop_more xs i x lt ∙ ap (λ (y : X). y ∷ drop (i + 1) xs) (sym is)

pub counts_step : (label : List ℕ) (labels : List (List ℕ)) (words new : Parts) → behind_count label words ≡ Some new
    → behind_counts (label ∷ labels) words ≡ behind_counts labels new
unfolding behind_counts
counts_step label labels words new e = rw e refl

pub counts_stop : (label : List ℕ) (labels : List (List ℕ)) (words : Parts) → behind_count label words ≡ None
    → behind_counts (label ∷ labels) words ≡ None
unfolding behind_counts
counts_stop label labels words e = rw e refl

-- where the loop over labels stands, and a label with no number behind it comes
pub counts_stop_at : (labels : List (Bor (List ℕ))) (i : ℕ) (d : Bor (List ℕ)) (words : Parts) (all : Option Parts)
    → i < length labels → behind_count (get_or labels i d).now words ≡ None
    → behind_counts (map (λ label. label.now) (drop i labels)) words ≡ all → all ≡ None
counts_stop_at labels i d words all lt none is =
    sym is
    ∙ ap (λ (ls : List (Bor (List ℕ))). behind_counts (map (λ label. label.now) ls) words) (drop_more labels i d lt)
    ∙ counts_stop (get_or labels i d).now (map (λ label. label.now) (drop (i + 1) labels)) words none

-- or one that has a number
pub counts_step_at : (labels : List (Bor (List ℕ))) (i : ℕ) (d : Bor (List ℕ)) (words new : Parts) (all : Option Parts)
    → i < length labels → behind_count (get_or labels i d).now words ≡ Some new
    → behind_counts (map (λ label. label.now) (drop i labels)) words ≡ all
    → behind_counts (map (λ label. label.now) (drop (i + 1) labels)) new ≡ all
counts_step_at labels i d words new all lt one is =
    sym (ap (λ (ls : List (Bor (List ℕ))). behind_counts (map (λ label. label.now) ls) words) (drop_more labels i d lt)
    ∙ counts_step (get_or labels i d).now (map (λ label. label.now) (drop (i + 1) labels)) words new one)
    ∙ is

pub counts_end : (words : Parts) → behind_counts [] words ≡ Some words
unfolding behind_counts
counts_end words = refl
