-- What was put of a journal's text, part by part.
use Rattle.std.proofs.Common.{◌≡◌, ◌≤◌, ◌<◌, ◌+◌, ℕ, zero, suc, Bool, true, false, List, [], ◌∷◌, ◌++◌, length, take}
use Rattle.std.proofs.Common.{drop, get_or, refl, sym, ap, ◌∙◌, arith, subst, append_assoc, append-nil, length-append}
use Rattle.std.proofs.lemmas.List.{drop-drop, take_more, take_all, flat_map_more}
use Rattle.std.specs.Prelude.{◌≢◌, MatchOption}
use Rattle.std.specs.Io.KnownBytes.{Appends}
use Rattle.std.specs.Option.{option_to_list}
use Rattle.std.specs.declared.option.Option.{Option}
use Rattle.std.specs.declared.option.Option.TheVariants.{Some, None}
use Rattle.account.specs.declared.entry.Entry.{Entry}
use Rattle.account.specs.Items.{items, routes, routes_by, named_by}
use Rattle.account.proofs.RouteLemmas.{routes-push}
use Rattle.account.specs.Says.{reports_of}
use Rattle.metric.specs.declared.metric.Content.{Content}
use Rattle.agent_workers.proofs.RoseLemmas.{rose_from}
use Rattle.journal_text.specs.declared.setup.JournalSetup.{JournalSetup}
use Rattle.journal_text.specs.JournalText.{HasItem, metric_line, metric_lines, report_lines}
use Rattle.journal_text.specs.Known.{known_of, head_as, entry_as}
use Rattle.journal_text.specs.declared.known.Known.{Known}
use Rattle.journal_text.specs.JournalText.{entries_text, end_text, journal_text}
use Rattle.agent_workers.specs.Run.{change, IsPutSo}
use Rattle.agent_workers.specs.Noted.{JournalPart, IsNotedSo, Notes, IsPartPut, GoesOut, SpellsOut, NotesOn, EndsOn}
use Rattle.journal_text.specs.SoFar.{text_so_far, noted_text, front_text, SpellsOn}
use Rattle.account.specs.Routes.{RoutesInOrder}
use Rattle.journal_text.proofs.SoFarLemmas.{SpellsFirst, spells_entry, spells_no_more, spells_more, spells_all}
use Rattle.journal_text.proofs.SoFarLemmas.{so_far_more, part_text, noted_some}

-- ---- entries that are spelled

-- an option's slice is its list
pub slice_is : {X : Type 0} (x : Option X) (xs : List X) → MatchOption x (xs ≡ []) (λ y. xs ≡ y ∷ [])
    → xs ≡ option_to_list x
slice_is None xs h = h
slice_is (Some y) xs h = h

-- the items that are left: those behind the first one, and behind them those that an entry names
pub rest_named : {X : Type 0} (item kept mid left named : List X) → kept ≡ item ++ mid → left ≡ mid ++ named
    → kept ++ named ≡ item ++ left
rest_named item kept mid left named first more =
    ap (λ (xs : List _). xs ++ named) first ∙ append_assoc item mid named ∙ ap (λ (xs : List _). item ++ xs) (sym more)

-- ---- texts of parts, one behind the other

-- a prefix of a front is one of the whole
prefix_more : (n : ℕ) (front rest : List ℕ) → (m : ℕ) × (take n front ≡ take m (front ++ rest))
prefix_more zero front rest = (0, refl)
prefix_more (suc n) [] rest = (0, refl)
prefix_more (suc n) (x ∷ front) rest = let p = prefix_more n front rest in (suc p.0, ap (λ (t : List ℕ). x ∷ t) p.1)

-- a front and a prefix of what follows it
prefix_behind : (n : ℕ) (front rest : List ℕ) → (m : ℕ) × (front ++ take n rest ≡ take m (front ++ rest))
prefix_behind n [] rest = (n, refl)
prefix_behind n (x ∷ front) rest = let p = prefix_behind n front rest in (suc p.0, ap (λ (t : List ℕ). x ∷ t) p.1)

appends_same : (before after : Option (List ℕ)) (text other : List ℕ) → text ≡ other → Appends before after text
    → Appends before after other
appends_same before after text other same h = subst (Appends before after) same h

appends_then : (before mid after : Option (List ℕ)) (first second : List ℕ) → Appends before mid first
    → Appends mid after second → Appends before after (first ++ second)
appends_then None mid after first second h k = tt
appends_then (Some xs) None after first second h k = absurd h
appends_then (Some xs) (Some ys) None first second h k = absurd k
appends_then (Some xs) (Some ys) (Some zs) first second h k =
    k ∙ ap (λ (t : List ℕ). t ++ second) h ∙ append_assoc xs first second

appends_none : (held : Option (List ℕ)) → Appends held held []
appends_none None = tt
appends_none (Some xs) = sym (append-nil xs)

-- ---- puts, one after the other

nothing_put : (was : Bool) (held : Option (List ℕ)) (faults : ℕ) → IsPartPut was was (change held held faults faults) []
nothing_put true held faults = (refl, refl, refl)
nothing_put false held faults = (appends_none held, omega arith)

-- two puts are one of both texts: where the first failed the second wasn't made
parts_put : (was then now : Bool) (first second : List ℕ) (held mid_held new_held : Option (List ℕ))
    (faults mid_faults new_faults : ℕ) →
    IsPartPut was then (change held mid_held faults mid_faults) first
    → IsPartPut then now (change mid_held new_held mid_faults new_faults) second
    → IsPartPut was now (change held new_held faults new_faults) (first ++ second)
parts_put true then now first second held mid_held new_held faults mid_faults new_faults h k =
    let none = subst (λ (b : Bool). IsPartPut b now (change mid_held new_held mid_faults new_faults) second) h.0 k in
    (none.0, none.1 ∙ h.1, none.2 ∙ h.2)
parts_put false true now first second held mid_held new_held faults mid_faults new_faults h k =
    let p = prefix_more h.0.1.0 first second in
    let torn : IsPutSo true (change held new_held faults new_faults) (first ++ second) = (
      omega (arith, h.0.0, k.2),
      (
        p.0,
        subst (λ (after : Option (List ℕ)). Appends held after (take p.0 (first ++ second))) (sym k.1)
            (appends_same held mid_held (take h.0.1.0 first) (take p.0 (first ++ second)) p.1 h.0.1.1),
      ),
    ) in (
      subst (λ (failed : Bool). IsPutSo failed (change held new_held faults new_faults) (first ++ second))
          (sym k.0) torn,
      omega (arith, h.1, k.2),
    )
parts_put false false true first second held mid_held new_held faults mid_faults new_faults h k =
    let n = k.0.1.0 in
    let p = prefix_behind n first second in (
      (
        rose_from faults mid_faults new_faults h.1 k.0.0,
        (
          p.0,
          appends_same held new_held (first ++ take n second) (take p.0 (first ++ second)) p.1
              (appends_then held mid_held new_held first (take n second) h.0 k.0.1.1),
        ),
      ),
      omega (arith, h.1, k.1),
    )
parts_put false false false first second held mid_held new_held faults mid_faults new_faults h k =
    (appends_then held mid_held new_held first second h.0 k.0, omega (arith, h.1, k.1))

put_as : (was now : Bool) (text other : List ℕ) (held new_held : Option (List ℕ)) (faults new_faults : ℕ) → text ≡ other
    →
    IsPartPut was now (change held new_held faults new_faults) text
    → IsPartPut was now (change held new_held faults new_faults) other
put_as was now text other held new_held faults new_faults same put =
    subst (λ (xs : List ℕ). IsPartPut was now (change held new_held faults new_faults) xs) same put

-- ---- a text that waits

-- a text that was added waits
pub wrote : (part : JournalPart) (waiting added rest : List ℕ) → rest ≡ waiting ++ added
    → GoesOut part part waiting added rest
wrote part waiting added rest is = record {
  front = [];
  all = is;
  put = nothing_put part.failed part.held part.faults;
  about = refl;
  known_same = refl;
  kept_same = refl;
  counted_same = refl;
}

-- all that waits is put
pub put_whole : (old : JournalPart) (failed : Bool) (held : Option (List ℕ)) (faults : ℕ) (text waiting rest : List ℕ)
    → text ≡ waiting → rest ≡ [] → IsPartPut old.failed failed (change old.held held old.faults faults) text →
    GoesOut old (record old { failed = failed; held = held; faults = faults }) waiting [] rest
put_whole old failed held faults text waiting rest is none put = record {
  front = waiting;
  all = ap (λ (t : List ℕ). waiting ++ t) none;
  put = put_as old.failed failed text waiting old.held held old.faults faults is put;
  about = refl;
  known_same = refl;
  kept_same = refl;
  counted_same = refl;
}

pub goes_then : (old mid new : JournalPart) (first added second more third : List ℕ)
    → GoesOut old mid first added second → GoesOut mid new second more third
    → GoesOut old new first (added ++ more) third
goes_then old mid new first added second more third h k = record {
  front = h.front ++ k.front;
  all = append_assoc h.front k.front third ∙ ap (λ (t : List ℕ). h.front ++ t) k.all
      ∙ sym (append_assoc h.front second more) ∙ ap (λ (t : List ℕ). t ++ more) h.all ∙ append_assoc first added more;
  put = parts_put old.failed mid.failed new.failed h.front k.front old.held mid.held new.held old.faults mid.faults
      new.faults h.put k.put;
  about = k.about ∙ h.about;
  known_same = k.known_same ∙ h.known_same;
  kept_same = k.kept_same ∙ h.kept_same;
  counted_same = k.counted_same ∙ h.counted_same;
}

pub goes_as : (old new : JournalPart) (waiting added other rest : List ℕ) → added ≡ other
    → GoesOut old new waiting added rest → GoesOut old new waiting other rest
goes_as old new waiting added other rest same h = subst (λ (t : List ℕ). GoesOut old new waiting t rest) same h

-- one metric more
pub metric_goes : (old mid new : JournalPart) (metrics : List Content) (n : ℕ) (m : Content)
    (first second third rest : List ℕ) → n < length metrics → m ≡ get_or metrics n m
    → GoesOut old mid first (metric_lines (take n metrics)) second → third ≡ second ++ metric_line m →
    GoesOut mid new third [] rest → GoesOut old new first (metric_lines (take (n + 1) metrics)) rest
metric_goes old mid new metrics n m first second third rest lt is h line k =
    let lines : (metric_lines (take n metrics) ++ metric_line m) ++ [] ≡ metric_lines (take (n + 1) metrics) =
    append-nil (metric_lines (take n metrics) ++ metric_line m) ∙ flat_map_more metric_line [] (take n metrics) m
    ∙ ap (λ (ms : List Content). metric_lines ms) (ap (λ (x : Content). take n metrics ++ x ∷ []) is
    ∙ sym (take_more metrics n m lt)) in
    goes_as old new first ((metric_lines (take n metrics) ++ metric_line m) ++ [])
    (metric_lines (take (n + 1) metrics)) rest lines
    (goes_then old mid new first (metric_lines (take n metrics) ++ metric_line m) third [] rest
    (goes_then old mid mid first (metric_lines (take n metrics)) second (metric_line m) third h
    (wrote mid second (metric_line m) third line)) k)

-- the lines of an entry
pub entry_goes : (known : Known) (item named : List Content) (e : Entry) (old mid new : JournalPart)
    (t0 t1 t2 t3 t4 : List ℕ) → named ≡ named_by e → t1 ≡ t0 ++ head_as known item e
    → GoesOut old mid t1 (metric_lines named) t2 → t3 ≡ t2 ++ report_lines (reports_of e) →
    GoesOut mid new t3 [] t4 → GoesOut old new t0 (entry_as known item e) t4
unfolding entry_as
entry_goes known item named e old mid new t0 t1 t2 t3 t4 names head metrics reports full =
    let front : List ℕ = head_as known item e in
    let last : List ℕ = report_lines (reports_of e) in
    let lines : ((front ++ metric_lines named) ++ last) ++ [] ≡ entry_as known item e =
    append-nil ((front ++ metric_lines named) ++ last) ∙ ap (λ (ms : List Content). (front ++ metric_lines ms) ++ last)
    names in
    goes_as old new t0 (((front ++ metric_lines named) ++ last) ++ []) (entry_as known item e) t4 lines
    (goes_then old mid new t0 ((front ++ metric_lines named) ++ last) t3 [] t4
    (goes_then old mid mid t0 (front ++ metric_lines named) t2 last t3
    (goes_then old old mid t0 front t1 (metric_lines named) t2 (wrote old t0 front t1 head) metrics)
    (wrote mid t2 last t3 reports))
    full)

-- ---- entries that are spelled behind a text that waits

-- the Routes of one entry
routes_one : (e : Entry) → routes (e ∷ []) ≡ routes_by e
unfolding routes
routes_one e = omega arith

-- an entry, whose item is at hand
pub spells_one : (e : Entry) (item mid left : List Content) (known : List Known) (old after : JournalPart) (count : ℕ)
    (text rest : List ℕ) → HasItem item e → old.kept ≡ item ++ mid → known ≡ drop (routes_by e) old.known
    → GoesOut (record old { kept = mid; known = known }) after text (entry_as (known_of old.known e) item e) rest
    → left ≡ after.kept ++ named_by e → count ≡ after.entries + 1 →
    SpellsOut (e ∷ []) old (record after { kept = left; entries = count }) text rest
spells_one e item mid left known old after count text rest has first known_is goes named counted = record {
  front = goes.front;
  spelled = spells_entry old.known e item old.kept left text (goes.front ++ rest) has
      (rest_named item old.kept mid left (named_by e) first (named
      ∙ ap (λ (xs : List Content). xs ++ named_by e) goes.kept_same)) goes.all;
  put = goes.put;
  about = goes.about;
  known_left = goes.known_same ∙ known_is ∙ ap (λ (n : ℕ). drop n old.known) (sym (routes_one e));
  counted = counted ∙ ap (λ (n : ℕ). n + 1) goes.counted_same;
}

-- entries behind a longer text
spells_behind : (known : List Known) (entries : List Entry) (kept left : List Content) (front text new_text : List ℕ)
    → SpellsOn known entries kept left text new_text
    → SpellsOn known entries kept left (front ++ text) (front ++ new_text)
spells_behind known entries kept left front text new_text spells journal kept_is order more so =
    let s = spells journal kept_is order more so in record {
      left_are = s.left_are;
      spelled = ap (λ (t : List ℕ). front ++ t) s.spelled ∙ sym
          (append_assoc front text (entries_text (items journal) entries));
      in_order = s.in_order;
    }

-- the first so many of the entries were spelled so
pub record FirstOut (n : ℕ) (entries : List Entry) (old now : JournalPart) (waiting rest : List ℕ) : Type 0 where
  pub front : List ℕ
  pub spelled : SpellsFirst old.known n entries old.kept now.kept waiting (front ++ rest)
  pub put : IsPartPut old.failed now.failed (change old.held now.held old.faults now.faults) front
  pub about : now.setup ≡ old.setup
  pub known_left : now.known ≡ drop (routes (take n entries)) old.known
  pub counted : now.entries ≡ old.entries + length (take n entries)

pub no_routes : routes [] ≡ 0
unfolding routes
no_routes = refl

pub first_none : (entries : List Entry) (part : JournalPart) (text : List ℕ) → FirstOut 0 entries part part text text
first_none entries part text = record {
  front = [];
  spelled = spells_no_more part.known entries part.kept text;
  put = nothing_put part.failed part.held part.faults;
  about = refl;
  known_left = ap (λ (n : ℕ). drop n part.known) (sym no_routes);
  counted = let none : length (take 0 entries) ≡ 0 = refl in omega (arith, none);
}

pub first_more : (n : ℕ) (entries : List Entry) (e : Entry) (old mid new : JournalPart) (waiting text rest : List ℕ)
    → n < length entries → e ≡ get_or entries n e → FirstOut n entries old mid waiting text
    → SpellsOut (e ∷ []) mid new text rest →
    FirstOut (n + 1) entries old new waiting rest
first_more n entries e old mid new waiting text rest lt is h k =
    let one : new.entries ≡ mid.entries + 1 = k.counted in
    let known : List Known = drop (routes (take n entries)) old.known in
    let more : take n entries ++ e ∷ [] ≡ take (n + 1) entries =
    ap (λ (x : Entry). take n entries ++ x ∷ []) is ∙ sym (take_more entries n e lt) in
    let longer : length (take (n + 1) entries) ≡ length (take n entries) + 1 =
    ap length (take_more entries n e lt) ∙ length-append (take n entries) (get_or entries n e ∷ []) in
    record {
      front = h.front ++ k.front;
      spelled =
          spells_more old.known n entries e old.kept mid.kept new.kept waiting (h.front ++ text)
          ((h.front ++ k.front) ++ rest) lt is h.spelled
          (subst (λ (t : List ℕ). SpellsOn known (e ∷ []) mid.kept new.kept (h.front ++ text) t)
          (sym (append_assoc h.front k.front rest)) (spells_behind known (e ∷ []) mid.kept new.kept h.front text
          (k.front ++ rest)
          (subst (λ (known : List Known). SpellsOn known (e ∷ []) mid.kept new.kept text (k.front ++ rest)) h.known_left
          k.spelled)));
      put = parts_put old.failed mid.failed new.failed h.front k.front old.held mid.held new.held old.faults mid.faults
          new.faults h.put k.put;
      about = k.about ∙ h.about;
      known_left = k.known_left ∙ ap (λ (ks : List Known). drop (routes (e ∷ [])) ks) h.known_left
          ∙ drop-drop (routes (e ∷ [])) (routes (take n entries)) old.known ∙ ap (λ (m : ℕ). drop m old.known)
          (ap (λ (m : ℕ). routes (take n entries) + m) (routes_one e) ∙ sym (routes-push (take n entries) e)
          ∙ ap routes more);
      counted = omega (arith, one, h.counted, longer);
    }

pub first_all : (n : ℕ) (entries : List Entry) (old new : JournalPart) (waiting rest : List ℕ) → length entries ≤ n
    → FirstOut n entries old new waiting rest → SpellsOut entries old new waiting rest
first_all n entries old new waiting rest most h = record {
  front = h.front;
  spelled = spells_all old.known n entries old.kept new.kept waiting (h.front ++ rest) most h.spelled;
  put = h.put;
  about = h.about;
  known_left = h.known_left ∙ ap (λ (es : List Entry). drop (routes es) old.known) (take_all n entries most);
  counted = h.counted ∙ ap (λ (es : List Entry). old.entries + length es) (take_all n entries most);
}

-- what was put of entries, and then all that waits
put_all : (entries : List Entry) (old mid new : JournalPart) (first rest waiting left : List ℕ)
    (s : SpellsOut entries old mid first rest) → GoesOut mid new waiting [] left → left ≡ [] →
    IsPartPut old.failed new.failed (change old.held new.held old.faults new.faults) (s.front ++ waiting)
put_all entries old mid new first rest waiting left s k none =
    let is : k.front ≡ waiting = sym (append-nil k.front) ∙ ap (λ (t : List ℕ). k.front ++ t) (sym none) ∙ k.all
    ∙ append-nil waiting in
    put_as old.failed new.failed (s.front ++ k.front) (s.front ++ waiting) old.held new.held old.faults new.faults
    (ap (λ (t : List ℕ). s.front ++ t) is)
    (parts_put old.failed mid.failed new.failed s.front k.front old.held mid.held new.held old.faults mid.faults
    new.faults s.put k.put)

-- ---- a part without an entry

pub notes_none : (setup : JournalSetup) (part : JournalPart) → part.setup ≡ setup → part.kept ≡ [] → part.entries ≡ 0
    → part.failed ≡ false → Notes setup part.held part.faults [] part
unfolding items routes RoutesInOrder
notes_none setup part about kept entries going = record {
  about = about;
  counted = entries;
  kept_are = kept;
  in_order = tt;
  later = omega arith;
  put = subst (λ (failed : Bool). IsNotedSo failed (change part.held part.held part.faults part.faults) setup [])
      (sym going) (appends_none part.held);
}

-- ---- a part more

module _ (entries : List Entry) (old : JournalPart) (setup : JournalSetup) (held : Option (List ℕ)) (faults : ℕ)
    (journal : List Entry) (h : Notes setup held faults journal old) where
  -- whatever was put before, a text that goes on with the journal's is put so now
  put_more : (was now : Bool) (text whole : List ℕ) (new_held : Option (List ℕ)) (new_faults : ℕ) → was ≡ old.failed
      → noted_text setup journal ++ text ≡ whole → ((rest : List ℕ) × (whole ≡ text_so_far setup journal ++ rest)) →
      IsPartPut was now (change old.held new_held old.faults new_faults) text
      → IsPutSo now (change held new_held faults new_faults) whole × (faults ≤ new_faults)
  put_more true now text whole new_held new_faults was is rest put =
      let before = subst (λ (failed : Bool). IsNotedSo failed (change held old.held faults old.faults) setup journal)
      (sym was) h.put in
      let later : faults ≤ new_faults = omega (arith, h.later, put.2) in
      let p = prefix_more before.1.0 (text_so_far setup journal) rest.0 in
      let torn : IsPutSo true (change held new_held faults new_faults) whole = (
        omega (arith, before.0, put.2),
        (
          p.0,
          subst (λ (after : Option (List ℕ)). Appends held after (take p.0 whole)) (sym put.1)
              (appends_same held old.held (take before.1.0 (text_so_far setup journal)) (take p.0 whole)
              (p.1 ∙ ap (take p.0) (sym rest.1)) before.1.1),
        ),
      ) in
      (subst (λ (failed : Bool). IsPutSo failed (change held new_held faults new_faults) whole) (sym put.0) torn, later)
  put_more false true text whole new_held new_faults was is rest put =
      let before = subst (λ (failed : Bool). IsNotedSo failed (change held old.held faults old.faults) setup journal)
      (sym was) h.put in
      let n = put.0.1.0 in
      let p = prefix_behind n (noted_text setup journal) text in (
        (
          rose_from faults old.faults new_faults h.later put.0.0,
          (
            p.0,
            appends_same held new_held (noted_text setup journal ++ take n text) (take p.0 whole)
                (p.1 ∙ ap (take p.0) is) (appends_then held old.held new_held (noted_text setup journal)
                (take n text) before put.0.1.1),
          ),
        ),
        omega (arith, h.later, put.1),
      )
  put_more false false text whole new_held new_faults was is rest put =
      let before = subst (λ (failed : Bool). IsNotedSo failed (change held old.held faults old.faults) setup journal)
      (sym was) h.put in (
        appends_same held new_held (noted_text setup journal ++ text) whole is
            (appends_then held old.held new_held (noted_text setup journal) text before put.0),
        omega (arith, h.later, put.1),
      )

  noted_by : (now : Bool) (new_held : Option (List ℕ)) (new_faults : ℕ) → length entries ≢ 0
      → IsPutSo now (change held new_held faults new_faults) (text_so_far setup (journal ++ entries))
      → IsNotedSo now (change held new_held faults new_faults) setup (journal ++ entries)
  noted_by true new_held new_faults some put = put
  noted_by false new_held new_faults some put = appends_same held new_held (text_so_far setup (journal ++ entries))
      (noted_text setup (journal ++ entries)) (sym (noted_some setup journal entries some)) put

-- entries were spelled, and all that waited was put
pub notes_more : (entries : List Entry) (old mid new : JournalPart) (rest left : List ℕ) → length entries ≢ 0
    → SpellsOut entries old mid (front_text old.setup old.entries) rest → GoesOut mid new rest [] left → left ≡ []
    → NotesOn entries old new
notes_more entries old mid new rest left some s k none = record {
  noted = λ setup held faults journal h more known_so.
      let text : List ℕ = s.front ++ rest in
      let so = s.spelled journal h.kept_are h.in_order more known_so in
      let is : text ≡ front_text setup old.entries ++ entries_text (items journal) entries =
      so.spelled
      ∙ ap (λ (x : JournalSetup). front_text x old.entries ++ entries_text (items journal) entries) h.about in
      let whole : noted_text setup journal ++ text ≡ text_so_far setup (journal ++ entries) =
      ap (λ (t : List ℕ). noted_text setup journal ++ t) is ∙ part_text setup old.entries journal entries h.counted in
      let put = put_all entries old mid new (front_text old.setup old.entries) rest rest left s k none in
      let all = put_more entries old setup held faults journal h old.failed new.failed text
      (text_so_far setup (journal ++ entries)) new.held new.faults refl whole
      (entries_text (items journal) entries, so_far_more setup journal entries) put in
      record {
        about = k.about ∙ s.about ∙ h.about;
        counted = k.counted_same ∙ s.counted ∙ ap (λ (n : ℕ). n + length entries) h.counted
            ∙ sym (length-append journal entries);
        kept_are = k.kept_same ∙ so.left_are;
        in_order = so.in_order;
        later = all.1;
        put = noted_by entries old setup held faults journal h new.failed new.held new.faults some all.0;
      };
  known_left = k.known_same ∙ s.known_left;
}

-- the last entries were spelled, and all that waited was put with the end
pub ends_noted : (entries : List Entry) (account : List ℕ) (old mid new : JournalPart) (rest waiting left : List ℕ)
    → SpellsOut entries old mid (front_text old.setup old.entries) rest → waiting ≡ rest ++ end_text account mid.entries
    → GoesOut mid new waiting [] left → left ≡ [] → EndsOn entries account old new
unfolding journal_text
ends_noted entries account old mid new rest waiting left s ended k none setup held faults journal h more known_so =
    let text : List ℕ = s.front ++ rest in
    let so = s.spelled journal h.kept_are h.in_order more known_so in
    let is : text ≡ front_text setup old.entries ++ entries_text (items journal) entries =
    so.spelled ∙ ap (λ (x : JournalSetup). front_text x old.entries ++ entries_text (items journal) entries) h.about in
    let front : noted_text setup journal ++ text ≡ text_so_far setup (journal ++ entries) =
    ap (λ (t : List ℕ). noted_text setup journal ++ t) is ∙ part_text setup old.entries journal entries h.counted in
    let count : mid.entries ≡ length (journal ++ entries) = s.counted ∙ ap (λ (n : ℕ). n + length entries) h.counted
    ∙ sym (length-append journal entries) in
    let last : List ℕ = end_text account mid.entries in
    let put =
    put_as old.failed new.failed (s.front ++ waiting) (text ++ last) old.held new.held old.faults new.faults
    (ap (λ (t : List ℕ). s.front ++ t) ended ∙ sym (append_assoc s.front rest last))
    (put_all entries old mid new (front_text old.setup old.entries) rest waiting left s k none) in
    let whole : noted_text setup journal ++ (text ++ last) ≡ journal_text setup (journal ++ entries) account =
    sym (append_assoc (noted_text setup journal) text last) ∙ ap (λ (t : List ℕ). t ++ last) front
    ∙ ap (λ (n : ℕ). text_so_far setup (journal ++ entries) ++ end_text account n) count in
    (put_more entries old setup held faults journal h old.failed new.failed (text ++ last)
    (journal_text setup (journal ++ entries) account) new.held new.faults refl whole (
      entries_text (items journal) entries ++ last,
      sym whole ∙ sym (append_assoc (noted_text setup journal) text last)
          ∙ ap (λ (t : List ℕ). t ++ last) (front ∙ so_far_more setup journal entries)
          ∙ append_assoc (text_so_far setup journal) (entries_text (items journal) entries) last,
    )
    put).0
