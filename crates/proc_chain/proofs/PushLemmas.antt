-- What stages make of one metric more.
use Rattle.std.proofs.Common.{◌≡◌, ◌++◌, ◌<◌, ◌+◌, ℕ, List, [], ◌∷◌, Some, None, Option, Ok, Err, Result}
use Rattle.std.proofs.Common.{refl, sym, ap, ◌∙◌, subst, arith, drop, length, get_or, set}
use Rattle.std.proofs.lemmas.List.{drop_all, take-set}
use Rattle.std.specs.Prelude.{option_and_then, IfOk, IsErr}
use Rattle.std.specs.Option.{option_map}
use Rattle.fixed_num.specs.declared.memory.OutOfMemory.{OutOfMemory}
use Rattle.metric.specs.declared.metric.Content.{Content}
use Rattle.metric_filter.specs.Kept.{metric_of}
use Rattle.metric_filter.specs.declared.kept.Kept.{Kept}
use Rattle.proc_chain.specs.Chain.{steps_of, AllStand, IsBehind, StageStands, StageState, StageWillStand}
use Rattle.proc_chain.specs.Seen.{Pushes, PushesFrom, StageSees}
use Rattle.proc_chain.specs.Steps.{chain_result, passed, step_result, whole}
use Rattle.proc_chain.specs.declared.stage.Seen.{Seen}
use Rattle.proc_chain.specs.declared.stage.Seen.TheVariants.{Removed, Passes, Fresh}
use Rattle.proc_chain.specs.declared.step.Step.{Step}
use Rattle.proc_chain.proofs.IndexLemmas.{here, new_at, new_front, new_here, new_within, set_behind, set_here, set_map}
use Rattle.proc_chain.proofs.StepLemmas.{passed-none, passed-some, whole-push}

-- ---- steps in order

-- what stages make of a metric, for every list for which they stand
abbrev PushesOn : List StageState → Content → Result (Option Kept) OutOfMemory → List StageState → Type 0
PushesOn old m result new = (list : List Content) → AllStand old list → Pushes old list m result new

-- without stages a metric passes as it is
ends : (m : Kept) → PushesOn [] (metric_of m) (Ok (Some m)) []
unfolding chain_result
ends m list all = (refl, tt)

module _ (s t : StageState) (same : t.step ≡ s.step) (rest : List StageState) (m : Content) where
  -- a step that removes a metric: the others don't see it
  stops : (seen : Seen) → ((list : List Content) → StageStands s list → StageSees s list m seen t)
      → seen ≡ Removed → PushesOn (s ∷ rest) m (Ok None) (t ∷ rest)
  unfolding chain_result
  stops seen sees is list all =
      let h = subst (λ (x : Seen). StageSees s list m x t) is (sees list all.0) in
      let others : passed t.step (list ++ m ∷ []) ≡ passed s.step list =
      ap (λ (step : Step). passed step (list ++ m ∷ [])) same ∙ passed-none s.step list m h.0 in (
        sym (ap (option_and_then (chain_result (steps_of rest) (passed s.step list))) h.0),
        (h.1, subst (AllStand rest) (sym others) all.1),
      )

  -- a step that passes one on, and an error further on
  fails : (next : List StageState) (left : Content) (error other : OutOfMemory)
      → ((list : List Content) → StageStands s list → StageStands t list)
      → PushesOn rest left (Err error) next → PushesOn (s ∷ rest) m (Err other) (t ∷ next)
  fails next left error other still h list all = (
    still list all.0,
    subst (AllStand next) (sym (ap (λ (step : Step). passed step list) same)) (h (passed s.step list) all.1),
  )

  -- a step that passes one on, which the others answer
  goes_on : (next : List StageState) (left : Content) (answer : Option Kept) (list : List Content)
      → step_result s.step list m ≡ Some left → StageStands t (list ++ m ∷ [])
      → Pushes {E = OutOfMemory} rest (passed s.step list) left (Ok answer) next
      → Pushes {E = OutOfMemory} (s ∷ rest) list m (Ok answer) (t ∷ next)
  unfolding chain_result
  goes_on next left answer list e stands h =
      let others : passed t.step (list ++ m ∷ []) ≡ passed s.step list ++ left ∷ [] =
      ap (λ (step : Step). passed step (list ++ m ∷ [])) same ∙ passed-some s.step list m left e in (
        h.0 ∙ ap (option_and_then (chain_result (steps_of rest) (passed s.step list))) (sym e),
        (stands, subst (AllStand next) (sym others) h.1),
      )

  passes : (next : List StageState) (left : Kept) (result : Result (Option Kept) OutOfMemory) (seen : Seen)
      → ((list : List Content) → StageStands s list → StageStands t list)
      → ((list : List Content) → StageStands s list → StageSees s list m seen t)
      → seen ≡ Passes left → PushesOn rest (metric_of left) result next → PushesOn (s ∷ rest) m result (t ∷ next)
  passes next left (Ok answer) seen still sees is h list all =
      let now = subst (λ (x : Seen). StageSees s list m x t) is (sees list all.0) in
      goes_on next (metric_of left) answer list now.0 now.1 (h (passed s.step list) all.1)
  passes next left (Err error) seen still sees is h list all =
      fails next (metric_of left) error error still h list all

-- a step that passes one on, and keeps what is to be kept once the others have answered
keeps : (s t u : StageState) (rest next : List StageState) (m : Content) (left : Kept) (fresh : Content)
    (answer : Option Kept) (seen : Seen)
    → u.step ≡ s.step → ((list : List Content) → StageStands s list → StageSees s list m seen t)
    → seen ≡ Fresh left fresh → ((list : List Content) → StageWillStand t list fresh → StageStands u list)
    → PushesOn rest (metric_of left) (Ok answer) next → PushesOn (s ∷ rest) m (Ok answer) (u ∷ next)
keeps s t u rest next m left fresh answer seen same sees is kept h list all =
    let now = subst (λ (x : Seen). StageSees s list m x t) is (sees list all.0) in
    goes_on s u same rest m next (metric_of left) answer list now.0 (kept (list ++ m ∷ []) now.1)
    (h (passed s.step list) all.1)

-- ---- stages from an index on

-- lists whose elements at an index are these, with these behind them
at_front : (old new front behind : List StageState) (m : Content) (result : Result (Option Kept) OutOfMemory)
    → old ≡ front → new ≡ behind → PushesOn front m result behind → PushesOn old m result new
at_front old new front behind m result e f h =
    subst (λ xs. PushesOn xs m result new) (sym e) (subst (λ ys. PushesOn front m result ys) (sym f) h)

pub none_left : (at : ℕ) (stages : List StageState) (m : Kept) → length stages ≡ at
    → PushesFrom {E = OutOfMemory} at stages (metric_of m) (Ok (Some m)) stages
none_left at stages m long =
    let none : drop at stages ≡ [] = drop_all at stages (omega arith) in
    record {
      front = refl;
      steps = refl;
      pushes = at_front (drop at stages) (drop at stages) [] [] (metric_of m) (Ok (Some m)) none none (ends m);
    }

module _ (old : List StageState) (at : ℕ) (s t : StageState) (lt : at < length old) (is : s ≡ get_or old at s)
    (same : t.step ≡ s.step) (m : Content) where
  abbrev looked : List StageState
  looked = set old at t

  -- what the stage at the index leaves, where none behind it is asked
  ended : (result : Result (Option Kept) OutOfMemory)
      → PushesOn (s ∷ drop (at + 1) old) m result (t ∷ drop (at + 1) old) → PushesFrom at old m result looked
  ended result h = record {
    front = take-set old at t;
    steps = set_map old at s lt is t (λ (stage : StageState). stage.step) same;
    pushes = at_front (drop at old) (drop at looked) (s ∷ drop (at + 1) old) (t ∷ drop (at + 1) old) m result
        (here old at s lt is) (set_here old at s lt is t) h;
  }

  pub look_failed : (result : Result (Option Kept) OutOfMemory) → IsErr result
      → ((list : List Content) → StageStands s list → StageStands t list) → PushesFrom at old m result looked
  look_failed (Ok answer) failed still = absurd cc
  look_failed (Err error) failed still =
      ended (Err error) (λ list all. (
        still list all.0,
        subst (AllStand (drop (at + 1) old))
            (sym (ap (λ (step : Step). passed step list) same)) all.1,
      ))

  pub look_removed : (seen : Seen) → ((list : List Content) → StageStands s list → StageSees s list m seen t)
      → seen ≡ Removed → PushesFrom {E = OutOfMemory} at old m (Ok None) looked
  look_removed seen sees removed = ended (Ok None) (stops s t same (drop (at + 1) old) m seen sees removed)

  -- where the stages behind it are asked
  module _ (new : List StageState) (left : Kept) where
    behind : (result : Result (Option Kept) OutOfMemory) → PushesFrom (at + 1) looked (metric_of left) result new
        → PushesOn (drop (at + 1) old) (metric_of left) result (drop (at + 1) new)
    behind result h =
        subst (λ xs. PushesOn xs (metric_of left) result (drop (at + 1) new)) (set_behind old at s lt is t) h.pushes

    whole_behind : (result inner : Result (Option Kept) OutOfMemory)
        → PushesFrom (at + 1) looked (metric_of left) inner new
        → PushesOn (s ∷ drop (at + 1) old) m result (t ∷ drop (at + 1) new) → PushesFrom at old m result new
    whole_behind result inner h on = record {
      front = new_front old at s lt is t new h.front;
      steps = h.steps ∙ set_map old at s lt is t (λ (stage : StageState). stage.step) same;
      pushes = at_front (drop at old) (drop at new) (s ∷ drop (at + 1) old) (t ∷ drop (at + 1) new) m result
          (here old at s lt is) (new_here old at s lt is t new h.front) on;
    }

    pub passed_on : (result : Result (Option Kept) OutOfMemory) (seen : Seen)
        → ((list : List Content) → StageStands s list → StageStands t list)
        → ((list : List Content) → StageStands s list → StageSees s list m seen t)
        → seen ≡ Passes left → PushesFrom (at + 1) looked (metric_of left) result new → PushesFrom at old m result new
    passed_on result seen still sees passes_on h =
        whole_behind result result h (passes s t same (drop (at + 1) old) m (drop (at + 1) new) left result seen
        still sees passes_on (behind result h))

    pub others_failed : (inner result : Result (Option Kept) OutOfMemory) (error : OutOfMemory)
        → ((list : List Content) → StageStands s list → StageStands t list) → inner ≡ Err error → IsErr result
        → PushesFrom (at + 1) looked (metric_of left) inner new → PushesFrom at old m result new
    others_failed inner (Ok answer) error still is failed h = absurd cc
    others_failed inner (Err other) error still is failed h =
        let on : PushesFrom {E = OutOfMemory} (at + 1) looked (metric_of left) (Err error) new =
        subst (λ (r : Result (Option Kept) OutOfMemory). PushesFrom (at + 1) looked (metric_of left) r new) is h in
        whole_behind (Err other) (Err error) on (fails s t same (drop (at + 1) old) m (drop (at + 1) new)
        (metric_of left) error other still (behind (Err error) on))

    -- the stage is as it was left
    still_there : (result : Result (Option Kept) OutOfMemory) (x : StageState)
        → PushesFrom (at + 1) looked (metric_of left) result new → x ≡ get_or new at x → x ≡ t
    still_there result x h read = read ∙ new_at old at s lt is t new h.front x

    still_within : (result : Result (Option Kept) OutOfMemory) → PushesFrom (at + 1) looked (metric_of left) result new
        → at < length new
    still_within result h = new_within old at s lt is t new h.front

    pub kept_at : (inner : Result (Option Kept) OutOfMemory) (answer : Option Kept) (fresh : Content)
        (seen : Seen) (x u : StageState) → ((list : List Content) → StageStands s list → StageSees s list m seen t)
        → seen ≡ Fresh left fresh → inner ≡ Ok answer → PushesFrom (at + 1) looked (metric_of left) inner new
        → x ≡ get_or new at x → u.step ≡ x.step
        → ((list : List Content) → StageWillStand x list fresh → StageStands u list)
        → PushesFrom {E = OutOfMemory} at old m (Ok answer) (set new at u)
    kept_at inner answer fresh seen x u sees fresh_is is_ok inner_on read step kept =
        let h : PushesFrom {E = OutOfMemory} (at + 1) looked (metric_of left) (Ok answer) new =
        subst (λ (r : Result (Option Kept) OutOfMemory). PushesFrom (at + 1) looked (metric_of left) r new) is_ok
        inner_on in
        let there : x ≡ t = still_there inner x inner_on read in
        let within : at < length new = still_within inner inner_on in
        let will : (list : List Content) → StageWillStand t list fresh → StageStands u list =
        subst (λ (y : StageState). (list : List Content) → StageWillStand y list fresh → StageStands u list) there
        kept in
        record {
          front = take-set new at u ∙ new_front old at s lt is t new h.front;
          steps = set_map new at x within read u (λ (stage : StageState). stage.step) step ∙ h.steps
              ∙ set_map old at s lt is t (λ (stage : StageState). stage.step) same;
          pushes = at_front (drop at old) (drop at (set new at u)) (s ∷ drop (at + 1) old) (u ∷ drop (at + 1) new) m
              (Ok answer) (here old at s lt is) (set_here new at x within read u)
              (keeps s t u (drop (at + 1) old) (drop (at + 1) new) m left fresh answer seen
              (step ∙ ap (λ (y : StageState). y.step) there ∙ same) sees fresh_is will (behind (Ok answer) h));
        }

-- ---- a chain

pub answered : (steps : List Step) (list : List Content) (m : Content) (old new : List StageState)
    (result : Result (Option Kept) OutOfMemory) → IsBehind steps list old → PushesFrom 0 old m result new
    → IfOk result (λ answer. option_map metric_of answer ≡ whole steps (list ++ m ∷ []))
answered steps list m old new (Ok answer) behind h =
    (h.pushes list behind.each).0 ∙ ap (λ (all : List Step). chain_result all list m) behind.same
    ∙ sym (whole-push steps list m)
answered steps list m old new (Err error) behind h = tt
