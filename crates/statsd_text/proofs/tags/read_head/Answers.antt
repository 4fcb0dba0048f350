use Rattle.std.proofs.Common.{◌≡◌, List, ℕ, Ok, refl}
use Rattle.std.proofs.lemmas.Result.{err_from_is_err_and}
use Rattle.text_parts.specs.declared.error.ReadError.{ReadError}
use Rattle.text_parts.specs.declared.error.ReadError.TheVariants as errors
use Rattle.text_parts.specs.Chain.{Fails}
use Rattle.text_parts.specs.Split.{PartAt, parts_of, each}
use Rattle.metric.specs.Draft.{Tag}
use Rattle.statsd_text.specs.declared.fault.StatsdFault.{StatsdFault}
use Rattle.statsd_text.specs.Tags.{name_of, head_tag, head_of}
use Rattle.statsd_text.proofs.tags.read_head.Goals as goal

name_fails : (e : ReadError StatsdFault) (head : List ℕ) (parts : List PartAt) → parts ≡ parts_of 44 (0, head)
    → Fails e (name_of parts) → Fails e (head_of head)
unfolding head_of
name_fails errors.OutOfMemory head parts is h = tt
name_fails (errors.Fault f) head parts is h = rw (← is, h) refl

tags_fail : (e : ReadError StatsdFault) (head : List ℕ) (parts others : List PartAt) (name : List ℕ)
    → parts ≡ parts_of 44 (0, head) → name_of parts ≡ Ok (name, others)
    → Fails e (each head_tag others) → Fails e (head_of head)
unfolding head_of
tags_fail errors.OutOfMemory head parts others name is n h = tt
tags_fail (errors.Fault f) head parts others name is n h = rw (← is, n, h) refl

head_is : (head : List ℕ) (parts others : List PartAt) (name : List ℕ) (tags : List Tag) → parts ≡ parts_of 44 (0, head)
    → name_of parts ≡ Ok (name, others)
    → each head_tag others ≡ Ok tags → head_of head ≡ Ok (name, tags)
unfolding head_of
head_is head parts others name tags is n h = rw (← is, n, h) refl

pub returns-in_err-name-clause-head : goal.returns-in_err-name-clause-head
returns-in_err-name-clause-head c =
    let p = err_from_is_err_and c.from_residual.result c.from_residual.ensures.1 in
    rw (p.1, p.2) (name_fails c.in_err-name.field-0.0 c.args.head.now c.of-parts.result c.of-parts.ensures
    c.in_err-name.ensures)

pub returns-in_err-read_head_tags-clause-head : goal.returns-in_err-read_head_tags-clause-head
returns-in_err-read_head_tags-clause-head c =
    let p = err_from_is_err_and c.from_residual-in_err-read_head_tags.result
    c.from_residual-in_err-read_head_tags.ensures.1 in
    rw (p.1, p.2) (tags_fail c.in_err-read_head_tags.field-0.0 c.args.head.now c.of-parts.result c.name_of.new.parts
    c.in_ok-name.name.now c.of-parts.ensures c.in_ok-name.ensures c.in_err-read_head_tags.ensures.tags)

pub returns-clause-head : goal.returns-clause-head
returns-clause-head c =
    let tags = c.in_ok-read_head_tags.ensures.tags in (
      tags.0,
      head_is c.args.head.now c.of-parts.result c.name_of.new.parts c.in_ok-name.name.now tags.0
          c.of-parts.ensures c.in_ok-name.ensures tags.1,
      tags.2,
    )
