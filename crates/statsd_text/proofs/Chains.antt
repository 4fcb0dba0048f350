-- The chain of a line's readings.
use Rattle.std.proofs.Common.{◌≡◌, ℕ, ℤ, List, [], ◌∷◌, ◌++◌, map, Ok, refl, sym, ap, ◌∙◌}
use Rattle.text_parts.specs.declared.error.ReadError.{ReadError}
use Rattle.text_parts.specs.declared.error.ReadError.TheVariants as errors
use Rattle.text_parts.specs.Chain.{Fails}
use Rattle.text_parts.specs.Split.{parts_of, each}
use Rattle.metric.specs.Draft.{Tag}
use Rattle.metric.specs.Pairs.{in_key_order, in_key_order_on, with_values}
use Rattle.metric.proofs.LawLemmas.{in_key_order-ordered}
use Rattle.statsd_text.specs.declared.fault.StatsdFault.{StatsdFault}
use Rattle.statsd_text.specs.declared.said.Said.{Said}
use Rattle.statsd_text.specs.Sections.{Sections, sections}
use Rattle.statsd_text.specs.Tags.{head_of, later_tags}
use Rattle.statsd_text.specs.Said.{part_of, field_name}
use Rattle.statsd_text.specs.Reading.{type_tag, content_of, limited, line_reading}
use Rattle.statsd_text.specs.TagMap.{kept_content}
use Rattle.statsd_text.proofs.KeptTags.{kept_tag, in_key_order_on_more}

pub sections_fail : (e : ReadError StatsdFault) (piece : List ℕ) (moment : ℤ) → Fails e (sections piece)
    → Fails e (line_reading piece moment)
unfolding line_reading
sections_fail errors.OutOfMemory piece moment h = tt
sections_fail (errors.Fault f) piece moment h = rw h refl

pub head_fails : (e : ReadError StatsdFault) (piece : List ℕ) (moment : ℤ) (line : Sections) → sections piece ≡ Ok line
    → Fails e (head_of line.head) → Fails e (line_reading piece moment)
unfolding line_reading
head_fails errors.OutOfMemory piece moment line s h = tt
head_fails (errors.Fault f) piece moment line s h = rw (s, h) refl

pub later_fails : (e : ReadError StatsdFault) (piece : List ℕ) (moment : ℤ) (line : Sections) (name : List ℕ)
    (given : List Tag) → sections piece ≡ Ok line
    → head_of line.head ≡ Ok (name, given) → Fails e (later_tags line.tags) → Fails e (line_reading piece moment)
unfolding line_reading
later_fails errors.OutOfMemory piece moment line name given s n h = tt
later_fails (errors.Fault f) piece moment line name given s n h = rw (s, n, h) refl

pub said_fails : (e : ReadError StatsdFault) (piece : List ℕ) (moment : ℤ) (line : Sections) (name : List ℕ)
    (given later : List Tag) → sections piece ≡ Ok line
    → head_of line.head ≡ Ok (name, given) → later_tags line.tags ≡ Ok later
    → Fails e (each part_of (parts_of 58 line.parts)) → Fails e (line_reading piece moment)
unfolding line_reading
said_fails errors.OutOfMemory piece moment line name given later s n l h = tt
said_fails (errors.Fault f) piece moment line name given later s n l h = rw (s, n, l, h) refl

pub line_is : (piece : List ℕ) (moment : ℤ) (line : Sections) (name : List ℕ) (given later : List Tag)
    (said : List Said) → sections piece ≡ Ok line
    → head_of line.head ≡ Ok (name, given) → later_tags line.tags ≡ Ok later
    → each part_of (parts_of 58 line.parts) ≡ Ok said
    → line_reading piece moment ≡ limited (map (content_of name (given ++ later) moment) said)
unfolding line_reading
line_is piece moment line name given later said s n l h = rw (s, n, l, h) refl

-- ---- the tags of a metric

kept_is : (name : List ℕ) (given : List Tag) (moment : ℤ) (said : Said)
    → kept_content name (with_values (in_key_order given)) moment said ≡ content_of name given moment said
kept_is name given moment said =
    ap (λ (tags : List Tag). record {
      name = name;
      tags = tags;
      fields = (field_name said.field, said.value) ∷ [];
      time = moment;
    })
    (kept_tag given (type_tag said).0 (type_tag said).1 (in_key_order-ordered given))

pub all_kept : (name : List ℕ) (given : List Tag) (moment : ℤ) (said : List Said)
    → map (kept_content name (with_values (in_key_order given)) moment) said ≡ map (content_of name given moment) said
all_kept name given moment [] = refl
all_kept name given moment (one ∷ said) =
    rw (kept_is name given moment one, all_kept name given moment said) refl

-- the metrics with the tags that were put into the map
pub metrics_are : (piece : List ℕ) (moment : ℤ) (line : Sections) (name : List ℕ) (given later : List Tag)
    (said : List Said) (start mid end kept : List Tag) → sections piece ≡ Ok line
    → head_of line.head ≡ Ok (name, given) → later_tags line.tags ≡ Ok later
    → each part_of (parts_of 58 line.parts) ≡ Ok said
    → start ≡ [] → mid ≡ in_key_order_on start given → end ≡ in_key_order_on mid later → kept ≡ with_values end
    → limited (map (kept_content name kept moment) said) ≡ line_reading piece moment
metrics_are piece moment line name given later said start mid end kept s n l h none first second valued =
    let order : end ≡ in_key_order (given ++ later) =
    second ∙ ap (λ (tags : List Tag). in_key_order_on tags later)
    (first ∙ ap (λ (tags : List Tag). in_key_order_on tags given) none)
    ∙ sym (in_key_order_on_more [] given later) in
    let tags : kept ≡ with_values (in_key_order (given ++ later)) = valued ∙ ap with_values order in
    rw tags (ap limited (all_kept name (given ++ later) moment said))
    ∙ sym (line_is piece moment line name given later said s n l h)
