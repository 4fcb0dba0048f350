use Rattle.std.proofs.Common.{◌∙◌, refl, sym, slice_set}
use Rattle.metric.proofs.PairLemmas.{push_pair, set_pair}
use Rattle.agg_keep.proofs.fields.put_field.Goals as goal

pub returns-in-Some : goal.returns-in-Some
returns-in-Some c =
    let items = c.args.fields.now.items in
    set_pair items c.as_slice.result.now (slice_set items c.in-Some.i (c.args.key, c.args.value)) c.in-Some.i
    c.args.key c.args.key c.args.value c.as_slice.ensures.value refl refl (sym c.index_of.ensures ∙ c.in-Some.is)

pub returns-in_ok-push-in-None : goal.returns-in_ok-push-in-None
returns-in_ok-push-in-None c =
    push_pair c.args.fields.now.items c.as_slice.result.now c.push.new.self.items c.args.key c.args.key c.args.value
    c.as_slice.ensures.value refl c.in_ok-push-in-None.ensures.items (sym c.index_of.ensures ∙ c.in-None.is)
