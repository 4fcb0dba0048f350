use Rattle.std.proofs.Common.{List, ℕ, map, ap}
use Rattle.std.specs.Borrow.{Bor}
use Rattle.std.specs.BTreeMap.{is_at}
use Rattle.std.specs.Map.{lookup}
use Rattle.std.specs.Cmp.Lexicographic.{slice_cmp}
use Rattle.std.specs.Ordering.{nat_cmp}
use Rattle.openmetrics_text.specs.Types.{last_of}
use Rattle.openmetrics_text.proofs.types.Types.new.Goals as goal

pub returns : goal.returns
unfolding last_of
returns c = record {
  kinds = ap (map (λ (kind : Bor (List ℕ)). kind.now)) c.new.ensures.items;
  last = λ name. ap (λ (entries : List (Bor (List ℕ) × ℕ)). lookup
      (is_at (λ (key : Bor (List ℕ)). slice_cmp nat_cmp name key.now)) entries) c.new-2.ensures.empty;
}
