-- What goes through the steps of a run, with one entry more.
use Rattle.std.proofs.Common.{◌≡◌, ℕ, zero, suc, Bool, true, false, List, [], ◌∷◌, ◌++◌, map, take, length}
use Rattle.std.proofs.Common.{sym, ap, subst, ◌∙◌, arith, ◌+◌, ◌&&◌, if◌then◌else◌, append-nil}
use Rattle.std.proofs.lemmas.List.{take-append-le, map-append}
use Rattle.std.proofs.lemmas.List.Elements.{filter-append}
use Rattle.std.specs.Prelude.{slice_get, slice_index_or, is_none, not}
use Rattle.std.specs.List.{filter, zip}
use Rattle.std.specs.declared.option.Option.{Option}
use Rattle.std.specs.declared.option.Option.TheVariants.{Some, None}
use Rattle.metric.specs.declared.metric.Content.{Content}
use Rattle.account.specs.Items.{items, taken, named_by, takes_by}
use Rattle.account.specs.Setup.{Setup}
use Rattle.account.specs.Origins.{Origin, made, origins, origins_by, origin_at, is_made, unrouted}
use Rattle.account.specs.declared.entry.Entry.{Entry}
use Rattle.account.specs.declared.entry.Entry.TheVariants.{Take}
use Rattle.account.proofs.ItemLemmas.{items-push}
use Rattle.account.proofs.OriginLemmas.{origins-match, origins-push}
use Rattle.pipeline_core.specs.CoreState.{CoreState}
use Rattle.pipeline_core.specs.Legal.{IsLegal}
use Rattle.pipeline_core.specs.Stands.{Stands, was_made}
use Rattle.pipeline_core.specs.Steps.{after_take}
use Rattle.pipeline_core.specs.Worked.{is_pushed, pushed, whole_of}
use Rattle.pipeline_core.proofs.BankLemmas.{mark_in_hand}
use Rattle.pipeline_core.proofs.JournalPush.{taken-push, few_taken}
use Rattle.pipeline_core.proofs.StandsSteps.{some_same}
use Rattle.pipeline_core.proofs.WorkedLemmas.{length-zip, zip-append}
use Rattle.proc_chain.specs.Chain.{AllStand, StageState}
use Rattle.agent_workers.specs.Item.{MakesSo, ProcPart, work_by}
use Rattle.agent_workers.specs.Progress.{pushed_items}

-- of items with their origins, those that go through the steps
abbrev among : Bool → List (Content × Origin) → List Content
among skip xs = map (λ (x : Content × Origin). x.0) (filter (λ (x : Content × Origin). is_pushed skip x.1) xs)

among-append : (skip : Bool) (xs ys : List (Content × Origin)) → among skip (xs ++ ys) ≡ among skip xs ++ among skip ys
among-append skip xs ys =
    ap (map (λ (x : Content × Origin). x.0)) (filter-append (λ (x : Content × Origin). is_pushed skip x.1) xs ys)
    ∙ map-append (λ (x : Content × Origin). x.0) (filter (λ (x : Content × Origin). is_pushed skip x.1) xs)
    (filter (λ (x : Content × Origin). is_pushed skip x.1) ys)

-- after an entry that takes none the same went through them
pub pushed_same : (setup : Setup) (skip : Bool) (journal : List Entry) (e : Entry) → IsLegal setup journal
    → takes_by e ≡ 0 → pushed_items skip (journal ++ e ∷ []) ≡ pushed_items skip journal
pushed_same setup skip journal e legal none =
    let match : length (items journal) ≡ length (origins journal) = sym (origins-match journal) in
    ap (among skip)
    (ap (λ (n : ℕ). take n (zip (items (journal ++ e ∷ [])) (origins (journal ++ e ∷ []))))
    (taken-push journal e ∙ omega (arith, none))
    ∙ ap (λ (xs : List Content). take (taken journal) (zip xs (origins (journal ++ e ∷ [])))) (items-push journal e)
    ∙ ap (λ (us : List Origin). take (taken journal) (zip (items journal ++ named_by e) us)) (origins-push journal e)
    ∙ ap (take (taken journal)) (zip-append (items journal) (named_by e) (origins journal) (origins_by e) match)
    ∙ take-append-le (taken journal) (zip (items journal) (origins journal)) (zip (named_by e) (origins_by e))
    (omega (arith, few_taken setup journal legal, length-zip (items journal) (origins journal) match)))

-- one more of two lists side by side
one_more : (xs : List Content) (us : List Origin) (k : ℕ) (m : Content) → length xs ≡ length us
    → slice_get xs k ≡ Some m → take (suc k) (zip xs us) ≡ take k (zip xs us) ++ (m, slice_index_or us k made) ∷ []
one_more [] us k m l e = absurd (let x : None ≡ Some m = e in cc)
one_more (x ∷ xs) [] k m l e = absurd (omega (arith, l))
one_more (x ∷ xs) (u ∷ us) zero m l e =
    ap (λ (y : Content). (y, u) ∷ []) (let same : Some x ≡ Some m = e in cc)
one_more (x ∷ xs) (u ∷ us) (suc k) m l e =
    ap (λ (all : List (Content × Origin)). (x, u) ∷ all) (one_more xs us k m (omega (arith, l)) e)

take_next : (xs : List Content) (us : List Origin) (k : ℕ) (m : Content) → length xs ≡ length us
    → slice_get xs k ≡ Some m → take (k + 1) (zip xs us) ≡ take k (zip xs us) ++ (m, slice_index_or us k made) ∷ []
take_next xs us k m l e =
    let next : k + 1 ≡ suc k = omega arith in
    ap (λ (n : ℕ). take n (zip xs us)) next ∙ one_more xs us k m l e

-- the next item was taken
pushed_take : (skip : Bool) (journal : List Entry) (item : ℕ) (m : Content)
    → slice_get (items journal) (taken journal) ≡ Some m → pushed_items skip (journal ++ Take item ∷ [])
    ≡ pushed_items skip journal ++ among skip ((m, origin_at journal (taken journal)) ∷ [])
pushed_take skip journal item m at =
    let t : Entry = Take item in
    let match : length (items journal) ≡ length (origins journal) = sym (origins-match journal) in
    ap (among skip)
    (ap (λ (n : ℕ). take n (zip (items (journal ++ t ∷ [])) (origins (journal ++ t ∷ [])))) (taken-push journal t)
    ∙ ap (λ (xs : List Content). take (taken journal + 1) (zip xs (origins (journal ++ t ∷ []))))
    (items-push journal t ∙ append-nil (items journal))
    ∙ ap (λ (us : List Origin). take (taken journal + 1) (zip (items journal) us))
    (origins-push journal t ∙ append-nil (origins journal))
    ∙ take_next (items journal) (origins journal) (taken journal) m match at)
    ∙ among-append skip (take (taken journal) (zip (items journal) (origins journal)))
    ((m, origin_at journal (taken journal)) ∷ [])

-- whether one item went through them
among_one : (skip : Bool) (m : Content) (o : Origin) (b : Bool) → (skip && is_none o.input) ≡ b
    → among skip ((m, o) ∷ []) ≡ (if b then [] else m ∷ [])
among_one skip m o true e = ap (λ (c : Bool). map (λ (x : Content × Origin). x.0) (if not c then (m, o) ∷ [] else [])) e
among_one skip m o false e = ap (λ (c : Bool). map (λ (x : Content × Origin). x.0) (if not c then
    (m, o) ∷ [] else [])) e

-- the last of those that went through them up to an item is that item, where it did
pub pushed_last : (skip : Bool) (journal : List Entry) (item : ℕ) (m : Content) → slice_get (items journal) item
    ≡ Some m
    → (before : List Content) × ((skip && is_made journal item) ≡ false → pushed skip journal item ≡ before ++ m ∷ [])
pushed_last skip journal item m at =
    let before = take item (zip (items journal) (origins journal)) in (
      among skip before,
      λ goes.
          ap (among skip) (take_next (items journal) (origins journal) item m (sym (origins-match journal)) at)
          ∙ among-append skip before ((m, origin_at journal item) ∷ [])
          ∙ ap (λ (xs : List Content). among skip before ++ xs)
          (among_one skip m (origin_at journal item) false goes),
    )

-- what the steps make of a metric: it is the whole behind those that went through them, and they stand for these
whole_is : (b : Bool) (proc new_proc : ProcPart) (metric : Content) (whole : Option Content)
    (before after : List Content)
    → MakesSo b proc new_proc metric whole → AllStand proc.chain before
    → after ≡ before ++ (if b then [] else metric ∷ [])
    → whole ≡ (if b then Some metric else (work_by proc).whole after)
whole_is true proc new_proc metric whole before after h stands is = h.whole_is
whole_is false proc new_proc metric whole before after h stands is =
    h.whole_is before stands ∙ ap (λ (xs : List Content). (work_by proc).whole xs) (sym is)

stands_on : (b : Bool) (proc new_proc : ProcPart) (metric : Content) (whole : Option Content)
    (before after : List Content)
    → MakesSo b proc new_proc metric whole → AllStand proc.chain before
    → after ≡ before ++ (if b then [] else metric ∷ []) → AllStand new_proc.chain after
stands_on true proc new_proc metric whole before after h stands is =
    subst (AllStand new_proc.chain) (sym (is ∙ append-nil before))
    (subst (λ (chain : List StageState). AllStand chain before) (sym h.same) stands)
stands_on false proc new_proc metric whole before after h stands is =
    subst (AllStand new_proc.chain) (sym is) (h.stands before stands)

-- the first raw item was taken: what the steps make of it is its whole, and they stand for what went through them
module _ (core mid : CoreState) (proc new_proc : ProcPart) (made_so : Bool) (metric : Content) (whole : Option Content)
    (journal : List Entry) (takes : mid ≡ after_take core) (stands : Stands core journal)
    (next : Stands mid (journal ++ Take core.taken ∷ [])) (mark : slice_get core.made 0 ≡ Some made_so)
    (at : slice_get (items journal) core.taken ≡ Some metric)
    (makes : MakesSo (proc.skip && made_so) proc new_proc metric whole)
    (before : AllStand proc.chain (pushed_items proc.skip journal)) where
  -- whether it was made is what the journal says
  pub made_is : is_made (journal ++ Take core.taken ∷ []) core.taken ≡ made_so
  made_is =
      let here : slice_get (map was_made (unrouted (journal ++ Take core.taken ∷ []))) 0
      ≡ Some (is_made (journal ++ Take core.taken ∷ []) core.taken) =
      mark_in_hand mid.setup (journal ++ Take core.taken ∷ []) core.taken next.legal
      (sym next.held ∙ ap (λ (s : CoreState). s.held) takes) in
      let there : slice_get (map was_made (unrouted (journal ++ Take core.taken ∷ []))) 0 ≡ Some made_so =
      ap (λ (ms : List Bool). slice_get ms 0) (sym next.made ∙ ap (λ (s : CoreState). s.made) takes) ∙ mark in
      some_same (is_made (journal ++ Take core.taken ∷ []) core.taken) made_so (sym here ∙ there)

  count : core.taken ≡ taken journal
  count = stands.taken_is

  origin_is : origin_at journal (taken journal) ≡ origin_at (journal ++ Take core.taken ∷ []) core.taken
  origin_is = ap (origin_at journal) (sym count)
      ∙ ap (λ (us : List Origin). slice_index_or us core.taken made) (sym (origins-push journal (Take core.taken)
      ∙ append-nil (origins journal)))

  grows : pushed_items proc.skip (journal ++ Take core.taken ∷ [])
      ≡ pushed_items proc.skip journal ++ (if proc.skip && made_so then [] else metric ∷ [])
  grows =
      pushed_take proc.skip journal core.taken metric
      (subst (λ (n : ℕ). slice_get (items journal) n ≡ Some metric) count at)
      ∙ ap (λ (xs : List Content). pushed_items proc.skip journal ++ xs)
      (among_one proc.skip metric (origin_at journal (taken journal)) (proc.skip && made_so)
      (ap (λ (o : Origin). proc.skip && is_none o.input) origin_is ∙ ap (λ (b : Bool). proc.skip && b) made_is))

  up_to : pushed proc.skip (journal ++ Take core.taken ∷ []) core.taken
      ≡ pushed_items proc.skip (journal ++ Take core.taken ∷ [])
  up_to = ap (λ (n : ℕ). among proc.skip (take n (zip (items (journal ++ Take core.taken ∷ []))
      (origins (journal ++ Take core.taken ∷ [])))))
      (ap (λ (n : ℕ). n + 1) count ∙ sym (taken-push journal (Take core.taken)))

  pub whole_made : whole ≡ whole_of (work_by proc) (journal ++ Take core.taken ∷ []) core.taken metric
  whole_made =
      whole_is (proc.skip && made_so) proc new_proc metric whole (pushed_items proc.skip journal)
      (pushed_items proc.skip (journal ++ Take core.taken ∷ [])) makes before grows
      ∙ ap (λ (b : Bool). if proc.skip && b then Some metric else (work_by proc).whole
      (pushed_items proc.skip (journal ++ Take core.taken ∷ []))) (sym made_is)
      ∙ ap (λ (xs : List Content). if proc.skip && is_made (journal ++ Take core.taken ∷ []) core.taken then Some metric
      else (work_by proc).whole xs) (sym up_to)

  pub pushed_on : AllStand new_proc.chain (pushed_items proc.skip (journal ++ Take core.taken ∷ []))
  pushed_on = stands_on (proc.skip && made_so) proc new_proc metric whole (pushed_items proc.skip journal)
      (pushed_items proc.skip (journal ++ Take core.taken ∷ [])) makes before grows
