-- Where no input is tracked there are no groups, and nothing settles.
use Rattle.std.proofs.Common.{◌≡◌, ℕ, List, [], ◌∷◌, ◌++◌, map, refl, sym, ap, ◌∙◌, length}
use Rattle.std.specs.Prelude.{slice_get}
use Rattle.std.proofs.lemmas.Option.{slice_get_within, get_or_from_slice_get}
use Rattle.std.specs.List.{All, enumerate_from, filter}
use Rattle.std.specs.declared.option.Option.{Option}
use Rattle.std.specs.declared.option.Option.TheVariants.{Some, None}
use Rattle.account.specs.Setup.{Setup}
use Rattle.account.specs.Says.{GatherSays, gather_of}
use Rattle.account.specs.Origins.{group_inputs, group_inputs_said, input_among}
use Rattle.account.proofs.OriginLemmas.{group_inputs-push}
use Rattle.account.specs.declared.entry.Entry.{Entry}
use Rattle.account.specs.declared.entry.Entry.TheVariants.{Gather, Ended, Take, Route, Tick, Stop, Begin}
use Rattle.account.specs.declared.entry.Entry.TheVariants.{Done}
use Rattle.pipeline_core.specs.Groups.{reports_at, report_of, settles, next_group}
use Rattle.pipeline_core.specs.Laws.{UntrackedHasNoGroups}
use Rattle.pipeline_core.specs.Legal.{Meets, MeetsGather, AreLegal, IsLegal}

-- an input of the set-up isn't tracked
none_most : (inputs : List (Option ℕ)) (input : ℕ) (most : Option ℕ) → All (λ (x : Option ℕ). x ≡ None) inputs →
    slice_get inputs input ≡ Some most → most ≡ None
none_most inputs input most untracked known =
    sym (get_or_from_slice_get inputs input most None known)
    ∙ untracked input None (slice_get_within inputs input most known)

-- what a Gather says has no group
said_none : (setup : Setup) (before : List Entry) (says : GatherSays) →
    All (λ (x : Option ℕ). x ≡ None) setup.inputs → MeetsGather setup before says →
    group_inputs_said (Some says) ≡ []
said_none setup before says untracked m =
    ap (input_among says.input)
    (m.group ∙ ap (λ (most : Option ℕ). next_group most before)
    (none_most setup.inputs says.input m.most untracked m.known))

-- an entry begins no group
ungrouped : (setup : Setup) (before : List Entry) (e : Entry) →
    All (λ (x : Option ℕ). x ≡ None) setup.inputs → Meets setup before e →
    group_inputs_said (gather_of e) ≡ []
ungrouped setup before (Gather input moment pieces refused passed filtered metrics group reports) untracked m =
    said_none setup before _ untracked m.line
ungrouped setup before (Ended input) untracked m = refl
ungrouped setup before (Take item) untracked m = refl
ungrouped setup before (Route item whole verdict aggs outs reports) untracked m = refl
ungrouped setup before (Tick moment made) untracked m = refl
ungrouped setup before (Stop moment made) untracked m = refl
ungrouped setup before (Begin output from to) untracked m = refl
ungrouped setup before (Done output ok reports) untracked m = refl

pub no_groups : (setup : Setup) (before es : List Entry) → All (λ (x : Option ℕ). x ≡ None) setup.inputs →
    AreLegal setup before es → group_inputs es ≡ []
unfolding AreLegal group_inputs
no_groups setup before [] untracked h = refl
no_groups setup before (e ∷ es) untracked h =
    ap (λ (xs : List ℕ). xs ++ group_inputs es) (ungrouped setup before e untracked h.0)
    ∙ no_groups setup (before ++ e ∷ []) es untracked h.1

-- an entry behind which there is no group
none_settles : (setup : Setup) (es : List Entry) (e : Entry) → group_inputs (es ++ e ∷ []) ≡ [] →
    reports_at setup es e ≡ []
unfolding reports_at
none_settles setup es e none =
    ap (λ (inputs : List ℕ). map (report_of setup (es ++ e ∷ []))
    (filter (λ (group : ℕ × ℕ). settles setup es e group.0) (enumerate_from 0 inputs))) none

-- an entry that begins no group, behind a legal journal
pub nothing_settles : (setup : Setup) (es : List Entry) (e : Entry) →
    All (λ (x : Option ℕ). x ≡ None) setup.inputs → IsLegal setup es → group_inputs_said (gather_of e) ≡ [] →
    reports_at setup es e ≡ []
nothing_settles setup es e untracked h none =
    none_settles setup es e
    (group_inputs-push es e ∙ ap (λ (xs : List ℕ). group_inputs es ++ xs) none
    ∙ ap (λ (xs : List ℕ). xs ++ []) (no_groups setup [] es untracked h))

pub untracked-no_groups : UntrackedHasNoGroups
untracked-no_groups setup untracked = record {
  groups = λ journal h. ap length (no_groups setup [] journal untracked h);
  reports = λ journal e h. none_settles setup journal e (no_groups setup [] (journal ++ e ∷ []) untracked h);
}
