-- Where items came from.
use Rattle.std.proofs.Common.{◌≡◌, List, [], ◌∷◌, ◌++◌, length, refl, arith, length-append}
use Rattle.std.proofs.lemmas.List.{length-replicate}
use Rattle.account.specs.declared.entry.Entry.{Entry}
use Rattle.account.specs.declared.entry.Entry.TheVariants.{Gather, Ended, Take, Route, Tick, Stop, Begin}
use Rattle.account.specs.declared.entry.Entry.TheVariants.{Done}
use Rattle.account.specs.Says.{gather_of}
use Rattle.account.specs.Items.{items, named_by}
use Rattle.account.specs.Origins.{made, origins, origins_by, OriginsMatch, group_inputs}
use Rattle.account.specs.Origins.{group_inputs_said}
use Rattle.account.proofs.PushLemmas.{push}

length-origins_by : (e : Entry) → length (origins_by e) ≡ length (named_by e)
length-origins_by (Gather input moment pieces refused passed filtered metrics group reports) =
    length-replicate (length metrics) _
length-origins_by (Ended input) = refl
length-origins_by (Take item) = refl
length-origins_by (Route item whole verdict aggs outs reports) = refl
length-origins_by (Tick moment metrics) = length-replicate (length metrics) made
length-origins_by (Stop moment metrics) = length-replicate (length metrics) made
length-origins_by (Begin output from to) = refl
length-origins_by (Done output ok reports) = refl

pub origins-match : OriginsMatch
unfolding origins items
origins-match [] = refl
origins-match (e ∷ es) =
    omega (
      arith,
      length-append (origins_by e) (origins es),
      length-append (named_by e) (items es),
      length-origins_by e,
      origins-match es,
    )

pub group_inputs-push : (es : List Entry) (e : Entry) →
    group_inputs (es ++ e ∷ []) ≡ group_inputs es ++ group_inputs_said (gather_of e)
unfolding group_inputs
group_inputs-push es e =
    push (λ (d : Entry). group_inputs_said (gather_of d)) group_inputs refl (λ d ds. refl) es e

pub origins-push : (es : List Entry) (e : Entry) → origins (es ++ e ∷ []) ≡ origins es ++ origins_by e
unfolding origins
origins-push es e = push origins_by origins refl (λ d ds. refl) es e
