-- The loop that reads tags and puts them among others.
use Rattle.std.proofs.Common.{◌≡◌, ℕ, ◌<◌, List, [], ◌∷◌, ◌++◌, length, Result, Ok, refl, sym, ap, ◌∙◌}
use Rattle.text_parts.specs.declared.error.ReadError.{ReadError}
use Rattle.text_parts.specs.Chain.{Fails}
use Rattle.text_parts.specs.Split.{PartAt, each}
use Rattle.text_parts.proofs.Each.{HasRead, nothing_read, one_more, failed_read, all_read}
use Rattle.metric.specs.Draft.{Tag}
use Rattle.metric.specs.Pairs.{in_key_order_on, with_sorted}
use Rattle.metric.proofs.DraftLemmas.{in_key_order_push}
use Rattle.statsd_text.specs.declared.fault.StatsdFault.{StatsdFault}
use Rattle.statsd_text.specs.TagMap.{IsKeyed}
use Rattle.statsd_text.proofs.KeptTags.{keyed_more}

module _ (read : PartAt → Result Tag StatsdFault) (all : List PartAt) (old : List Tag) where
  -- where the loop stands: the tags of the parts that were read are put among the old ones, and these parts are left
  pub record HasPut (tags : List Tag) (left : List PartAt) : Type 0 where
    pub keyed : IsKeyed tags
    pub given : List Tag
    pub read_so_far : HasRead read all given left
    pub put : tags ≡ in_key_order_on old given

  pub nothing_put : IsKeyed old → HasPut old all
  unfolding in_key_order_on
  nothing_put keyed = record { keyed = keyed; given = []; read_so_far = nothing_read read all; put = refl }

  pub put_more : (tags new : List Tag) (left : List PartAt) (part : PartAt) (parts : List PartAt) (key value : List ℕ)
      → HasPut tags left → left ≡ part ∷ parts → read part ≡ Ok (key, value) → 0 < length key
      → new ≡ with_sorted tags key value → HasPut new parts
  put_more tags new left part parts key value h is one some grown = record {
    keyed = rw grown (keyed_more tags key value some h.keyed);
    given = h.given ++ (key, value) ∷ [];
    read_so_far = one_more read all left h.given part parts (key, value) h.read_so_far is one;
    put = grown ∙ ap (λ (ts : List Tag). with_sorted ts key value) h.put
        ∙ sym (in_key_order_push old h.given (key, value));
  }

  pub put_fails : (tags : List Tag) (left : List PartAt) (part : PartAt) (parts : List PartAt)
      (e : ReadError StatsdFault) → HasPut tags left → left ≡ part ∷ parts → Fails e (read part)
      → Fails e (each read all)
  put_fails tags left part parts e h is fails =
      failed_read read all left h.given part parts e h.read_so_far is fails

  pub put_all : (tags : List Tag) (left : List PartAt) → HasPut tags left → left ≡ []
      → (given : List Tag) × (each read all ≡ Ok given) × (tags ≡ in_key_order_on old given)
  put_all tags left h none = (h.given, all_read read all left h.given h.read_so_far none, h.put)
