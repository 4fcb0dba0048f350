-- What the work of a run makes of each item, with one entry more.
use Rattle.std.proofs.Common.{◌≡◌, ◌<◌, ℕ, zero, suc, Bool, List, [], ◌∷◌, ◌++◌, map, take, drop, length}
use Rattle.std.proofs.Common.{refl, sym, ap, ◌∙◌, arith, ◌+◌, ◌&&◌, if◌then◌else◌}
use Rattle.std.proofs.lemmas.List.{take-append-le, get_or_append_left}
use Rattle.std.proofs.lemmas.Option.{slice_get_within}
use Rattle.std.specs.Prelude.{slice_get, slice_index_or, is_none}
use Rattle.std.specs.List.{filter, zip}
use Rattle.std.specs.declared.option.Option.{Option}
use Rattle.std.specs.declared.option.Option.TheVariants.{Some, None}
use Rattle.metric.specs.declared.metric.Content.{Content}
use Rattle.account.specs.Items.{items, taken, named_by}
use Rattle.account.specs.Origins.{Origin, made, origins, origins_by, is_made}
use Rattle.account.specs.declared.entry.Entry.{Entry}
use Rattle.account.specs.declared.entry.Entry.TheVariants.{Gather, Ended, Take, Route, Tick, Stop, Begin, Done}
use Rattle.account.specs.declared.entry.Report.{Report}
use Rattle.account.specs.declared.entry.Verdict.{Verdict}
use Rattle.pipeline_core.specs.CoreState.{CoreState}
use Rattle.pipeline_core.specs.Stands.{Stands}
use Rattle.account.proofs.ItemLemmas.{items-push}
use Rattle.account.proofs.OriginLemmas.{origins-match, origins-push}
use Rattle.pipeline_core.specs.Work.{Work}
use Rattle.pipeline_core.specs.Worked.{WorkedBy, AreWorked, Worked, views_of, is_pushed, pushed, whole_of}
use Rattle.pipeline_core.specs.Worked.{seen_of}

-- an item keeps its number as more come
pub slice_get-append : (xs ys : List Content) (k : ℕ) (m : Content) → slice_get xs k ≡ Some m
    → slice_get (xs ++ ys) k ≡ Some m
slice_get-append [] ys k m e = absurd (let x : None ≡ Some m = e in cc)
slice_get-append (x ∷ xs) ys zero m e = e
slice_get-append (x ∷ xs) ys (suc k) m e = slice_get-append xs ys k m e

-- an item is still the one with its number after an entry
pub item_stays : (journal : List Entry) (e : Entry) (item : ℕ) (metric : Content)
    → slice_get (items journal) item ≡ Some metric → slice_get (items (journal ++ e ∷ [])) item ≡ Some metric
item_stays journal e item metric at = ap (λ (xs : List Content). slice_get xs item) (items-push journal e)
    ∙ slice_get-append (items journal) (named_by e) item metric at

-- and where it came from
pub made_stays : (journal : List Entry) (e : Entry) (item : ℕ) → item < length (items journal)
    → is_made (journal ++ e ∷ []) item ≡ is_made journal item
made_stays journal e item within =
    ap (λ (origin : Origin). is_none origin.input)
    (ap (λ (xs : List Origin). slice_index_or xs item made) (origins-push journal e)
    ∙ get_or_append_left (origins journal) (origins_by e) made item (omega (arith, within, origins-match journal)))

-- lists side by side, each with more behind it
pub zip-append : (xs ys : List Content) (us vs : List Origin) → length xs ≡ length us
    → zip (xs ++ ys) (us ++ vs) ≡ zip xs us ++ zip ys vs
zip-append [] ys [] vs l = refl
zip-append [] ys (u ∷ us) vs l = absurd (omega (arith, l))
zip-append (x ∷ xs) ys [] vs l = absurd (omega (arith, l))
zip-append (x ∷ xs) ys (u ∷ us) vs l = ap (λ (all : List (Content × Origin)). (x, u) ∷ all)
    (zip-append xs ys us vs (omega (arith, l)))

pub length-zip : (xs : List Content) (us : List Origin) → length xs ≡ length us → length (zip xs us) ≡ length xs
length-zip [] us l = refl
length-zip (x ∷ xs) [] l = absurd (omega (arith, l))
length-zip (x ∷ xs) (u ∷ us) l = omega (arith, length-zip xs us (omega (arith, l)))

-- what was pushed up to an item is so after an entry
pushed_stays : (skip : Bool) (journal : List Entry) (e : Entry) (item : ℕ) → item < length (items journal)
    → pushed skip (journal ++ e ∷ []) item ≡ pushed skip journal item
pushed_stays skip journal e item within =
    let match : length (items journal) ≡ length (origins journal) = sym (origins-match journal) in
    ap (λ (all : List (Content × Origin)). map (λ (x : Content × Origin). x.0)
    (filter (λ (x : Content × Origin). is_pushed skip x.1) (take (item + 1) all)))
    (ap (λ (xs : List Content). zip xs (origins (journal ++ e ∷ []))) (items-push journal e)
    ∙ ap (zip (items journal ++ named_by e)) (origins-push journal e)
    ∙ zip-append (items journal) (named_by e) (origins journal) (origins_by e) match)
    ∙ ap (λ (all : List (Content × Origin)). map (λ (x : Content × Origin). x.0)
    (filter (λ (x : Content × Origin). is_pushed skip x.1) all))
    (take-append-le (item + 1) (zip (items journal) (origins journal)) (zip (named_by e) (origins_by e))
    (omega (arith, within, length-zip (items journal) (origins journal) match)))

module _ (work : Work) where
  WorkedBy-more : (journal : List Entry) (more e : Entry) → WorkedBy work journal e
      → WorkedBy work (journal ++ more ∷ []) e
  WorkedBy-more journal more (Gather input moment pieces refused passed filtered metrics group reports) w = tt
  WorkedBy-more journal more (Ended input) w = tt
  WorkedBy-more journal more (Take item) w = tt
  WorkedBy-more journal more (Route item whole verdict aggs outs reports) w =
      let within : item < length (items journal) = slice_get_within (items journal) item w.metric w.is_item in
      let same : is_made (journal ++ more ∷ []) item ≡ is_made journal item = made_stays journal more item within in
      record {
        metric = w.metric;
        is_item = item_stays journal more item w.metric w.is_item;
        is_whole =
            w.is_whole
            ∙ ap (λ (b : Bool). if work.skip && b then Some w.metric else work.whole (pushed work.skip journal item))
            (sym same)
            ∙ ap (λ (all : List Content). if work.skip && is_made (journal ++ more ∷ []) item then Some w.metric else
            work.whole all) (sym (pushed_stays work.skip journal more item within));
        aggs_are = w.aggs_are ∙ ap (λ (b : Bool). if b then views_of work.aggs None else views_of work.aggs whole)
            (sym same);
        outs_are = w.outs_are;
      }
  WorkedBy-more journal more (Tick moment metrics) w = tt
  WorkedBy-more journal more (Stop moment metrics) w = tt
  WorkedBy-more journal more (Begin output from to) w = tt
  WorkedBy-more journal more (Done output ok reports) w = tt

  AreWorked-more : (journal : List Entry) (more : Entry) (es : List Entry) → AreWorked work journal es
      → AreWorked work (journal ++ more ∷ []) es
  unfolding AreWorked
  AreWorked-more journal more [] w = tt
  AreWorked-more journal more (e ∷ es) w = (WorkedBy-more journal more e w.0, AreWorked-more journal more es w.1)

  AreWorked-push : (journal es : List Entry) (e : Entry) → AreWorked work journal es → WorkedBy work journal e
      → AreWorked work journal (es ++ e ∷ [])
  unfolding AreWorked
  AreWorked-push journal [] e w h = (h, tt)
  AreWorked-push journal (d ∷ es) e w h = (w.0, AreWorked-push journal es e w.1 h)

  -- nothing happened
  pub worked_first : Worked work []
  unfolding AreWorked
  worked_first = tt

  -- one entry more
  pub worked-push : (journal : List Entry) (e : Entry) → WorkedBy work journal e → Worked work journal
      → Worked work (journal ++ e ∷ [])
  worked-push journal e h w =
      AreWorked-push (journal ++ e ∷ []) journal e (AreWorked-more journal e journal w) (WorkedBy-more journal e e h)

  -- an item that was routed
  pub worked_route : (journal : List Entry) (item : ℕ) (metric : Content) (whole : Option Content) (verdict : Verdict)
      (aggs : List (Option Content)) (reports : List Report) → slice_get (items journal) item ≡ Some metric →
      whole ≡ whole_of work journal item metric → aggs ≡ seen_of work journal item whole → Worked work journal
      → Worked work (journal ++ Route item whole verdict aggs (views_of work.outs whole) reports ∷ [])
  worked_route journal item metric whole verdict aggs reports at is seen w =
      worked-push journal (Route item whole verdict aggs (views_of work.outs whole) reports)
      (record { metric = metric; is_item = at; is_whole = is; aggs_are = seen; outs_are = refl }) w

first_behind : (k : ℕ) (xs : List Content) → slice_get (drop k xs) 0 ≡ slice_get xs k
first_behind zero [] = refl
first_behind zero (x ∷ xs) = refl
first_behind (suc k) [] = refl
first_behind (suc k) (x ∷ xs) = first_behind k xs

-- the first raw item is the one whose number is how many were taken
pub first_raw : (core : CoreState) (journal : List Entry) (metric : Content) → Stands core journal
    → slice_get core.raw 0 ≡ Some metric → slice_get (items journal) core.taken ≡ Some metric
first_raw core journal metric h e =
    ap (λ (n : ℕ). slice_get (items journal) n) h.taken_is
    ∙ sym (first_behind (taken journal) (items journal))
    ∙ ap (λ (xs : List Content). slice_get xs 0) (sym h.raw)
    ∙ e
