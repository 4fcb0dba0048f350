use Rattle.std.proofs.Common.{◌≡◌, [], ◌∷◌, ◌∙◌, List, ap, arith, length, map, refl, subst, sym}
use Rattle.std.specs.List.{fold, AllByRecursion}
use Rattle.std.specs.Vec.Iter.{into_iter_items}
use Rattle.metric.specs.declared.metric.Content.{Content}
use Rattle.statsd_server.specs.declared.part.Part.{Part}
use Rattle.statsd_server.specs.declared.placed.Placed.{Placed}
use Rattle.statsd_server.specs.Counting.{with_part}
use Rattle.statsd_server.specs.Kept.{part_of, said_by, IsPlaced, Keeps}
use Rattle.statsd_server.specs.TallyView.{memory_of}
use Rattle.statsd_server.proofs.KeepLemmas.{all_stay, none_left}
use Rattle.statsd_server.proofs.tally.Tally.add_all.Goals as goal

-- the first of parts, of which it is known what they say
record Splits (parts : List Content) (first : Part) (others : List Part) : Type 0 where
  part : Content
  left : List Content
  is : parts ≡ part ∷ left
  here : said_by part ≡ first
  there : map said_by left ≡ others

splits : (parts : List Content) (first : Part) (others : List Part) → map said_by parts ≡ first ∷ others
    → Splits parts first others
splits [] first others e = absurd cc
splits (part ∷ left) first others e = record { part = part; left = left; is = refl; here = cc; there = cc }

none_said : (parts : List Content) → map said_by parts ≡ [] → parts ≡ []
none_said [] e = refl
none_said (part ∷ parts) e = absurd cc

pub loop-placed-preserved : goal.loop-placed-preserved
loop-placed-preserved c =
    let l = c.loop-placed in
    let rest = into_iter_items c.next.new.self in
    let step = c.in-Some.ensures.steps.0 in
    let size = ap (λ (all : List Placed). length all) step in
    record {
      keeps = λ past now parts said keeps.
          let so_far = l.invariant.keeps past now parts said keeps in
          let s = splits so_far.1 (part_of c.in-Some.placed) (map part_of rest)
          (so_far.3 ∙ ap (λ (all : List Placed). map part_of all) step) in (
            with_part past so_far.0 s.part,
            s.left,
            c.add.ensures.keeps past so_far.0 s.part s.here so_far.2,
            s.there,
            ap (λ (left : List Content). fold (with_part past) so_far.0 left) (sym s.is) ∙ so_far.4,
          );
      placed = all_stay (IsPlaced (memory_of l.self)) (IsPlaced (memory_of c.add.new.self)) c.add.ensures.stays rest
          (subst (AllByRecursion (IsPlaced (memory_of l.self))) step l.invariant.placed).1;
      space = omega (arith, size, l.invariant.space, c.add.ensures.space, c.add.ensures.order);
      all = omega (arith, size, l.invariant.all, c.add.ensures.all);
    }

pub returns-clause-keeps : goal.returns-clause-keeps
returns-clause-keeps c = λ past now parts said keeps.
    let l = c.loop-placed in
    let so_far = l.invariant.keeps past now parts said keeps in
    let none : into_iter_items l.placed-iterator ≡ [] =
    none_left (into_iter_items l.placed-iterator) (omega
    (arith, c.in-None.ensures.steps.0, l.placed-iterator.rest.ok)) in
    let done : so_far.1 ≡ [] =
    none_said so_far.1 (so_far.3 ∙ ap (λ (all : List Placed). map part_of all) none) in
    subst (λ (ms : List Content). Keeps past ms (memory_of l.self))
    (ap (λ (left : List Content). fold (with_part past) so_far.0 left) (sym done) ∙ so_far.4) so_far.2
