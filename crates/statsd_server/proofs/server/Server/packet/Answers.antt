use Rattle.std.proofs.Common.{◌≡◌, ◌∙◌, List, ap, arith, length, map, refl, subst, sym}
use Rattle.std.proofs.lemmas.List.{length-map}
use Rattle.std.specs.List.{fold}
use Rattle.metric.specs.declared.metric.Content.{Content}
use Rattle.statsd_server.specs.Counting.{with_part}
use Rattle.statsd_server.specs.Kept.{part_of, said_by, Keeps}
use Rattle.statsd_server.specs.Packets.{lines_of, parts_of_lines}
use Rattle.statsd_server.specs.declared.part.Part.{Part}
use Rattle.statsd_server.specs.Server.{StandsFor}
use Rattle.statsd_server.specs.ServerView.{server_memory}
use Rattle.statsd_server.specs.TallyView.{memory_of}
use Rattle.statsd_server.proofs.ServerLemmas.{on_err, packet_more, still_stands}
use Rattle.statsd_server.proofs.server.Server.packet.Goals as goal

pub returns-in_err-placed-clause-err : goal.returns-in_err-placed-clause-err
returns-in_err-placed-clause-err c = λ earlier hand stands.
    on_err _ _ (still_stands earlier hand (server_memory c.self.inside) _
    (subst (StandsFor earlier hand) (sym c.self.view_is) stands) refl c.place_all.ensures.stays.keeps
    c.place_all.ensures.stays.counted c.place_all.ensures.stays.refused)

pub returns-clause-ok : goal.returns-clause-ok
returns-clause-ok c = λ earlier hand stands.
    let placed = c.in_ok-placed.placed.items in
    let parts = parts_of_lines (lines_of c.args.bytes.now) in
    let said : map said_by parts ≡ map part_of placed =
    sym (c.in_ok-placed.ensures.parts ∙ c.in_ok-reading.ensures.parts) in
    let size = ap (λ (all : List Part). length all) said in
    let refused = c.in_ok-reading.reading.refused in
    let stays = c.place_all.ensures.stays in
    let keeps : (past now : List Content) → Keeps past now (memory_of c.self.inside.tally)
    → Keeps past (fold (with_part past) now parts) (memory_of c.add_reading.new.self) =
    λ past now kept. c.add_reading.ensures.keeps past now parts said (stays.keeps past now kept) in
    let counted = stays.counted in
    let left = stays.refused in
    packet_more earlier hand c.args.bytes.now (server_memory c.self.inside) _ parts refused
    (subst (StandsFor earlier hand) (sym c.self.view_is) stands)
    refl c.in_ok-reading.ensures.refused refl keeps
    (omega (arith, c.add_reading.ensures.all, counted, left, size, length-map placed part_of, length-map parts said_by))
