use Rattle.std.proofs.Common.{◌≡◌, ◌<◌, ◌+◌, ◌-◌, ◌∙◌, ◌++◌, [], List, ap, append-nil, arith, drop, length}
use Rattle.std.proofs.Common.{length-drop, sym, take, ℕ}
use Rattle.statsd_server.specs.declared.reading.Reading.{Reading}
use Rattle.statsd_server.specs.Packets.{lines_of, refused_lines}
use Rattle.statsd_server.proofs.LineLemmas.{all_behind, left_at, line_ends, line_goes_on, line_rests, parts_step}
use Rattle.statsd_server.proofs.LineLemmas.{refused_few, refused_step, rest_none, rest_some, said_of_lines}
use Rattle.statsd_server.proofs.reading.read_packet.Goals.{else-start-packet, then-start-packet+in_ok-add_line-2}
use Rattle.statsd_server.proofs.reading.read_packet.Goals as goal

pub loop-i-preserved-then-packet-i-eq10 : goal.loop-i-preserved-then-packet-i-eq10
loop-i-preserved-then-packet-i-eq10 c =
    let l = c.loop-i in
    let p = c.args.packet.now in
    let ends = line_ends p l.start l.i c.loop-i-test.true c.if-packet-i-eq10.true in
    record {
      parts = parts_step l.reading.parts.items c.add_line.new.self.parts.items c.without_return.result.now _ _ _
          (said_of_lines (lines_of p)) c.in_ok-add_line.ensures.parts c.without_return.ensures ends l.invariant.parts;
      refused = refused_step l.reading.refused c.add_line.new.self.refused c.without_return.result.now _ _ _
          (refused_lines (lines_of p)) c.in_ok-add_line.ensures.refused c.without_return.ensures ends
          l.invariant.refused;
      begun = omega arith;
      within = omega arith;
      few = refused_few l.reading.refused c.add_line.new.self.refused l.i c.without_return.result.now
          c.in_ok-add_line.ensures.refused l.invariant.few;
    }

pub loop-i-preserved : goal.loop-i-preserved
loop-i-preserved c =
    let l = c.loop-i in
    let p = c.args.packet.now in
    let goes = line_goes_on p l.start l.i c.loop-i-test.true l.invariant.begun c.if-packet-i-eq10.false in
    record {
      parts = ap (λ (lines : List (List ℕ)). l.reading.parts.items ++ said_of_lines lines) (sym goes)
          ∙ l.invariant.parts;
      refused = ap (λ (lines : List (List ℕ)). l.reading.refused + refused_lines lines) (sym goes)
          ∙ l.invariant.refused;
      begun = omega arith;
      within = omega arith;
      few = omega arith;
    }

pub returns-clause-parts : goal.returns-clause-parts
returns-clause-parts c =
    let l = c.loop-i in
    let p = c.args.packet.now in
    let all = said_of_lines (lines_of p) in
    let old = l.reading.parts.items in
    let rests = line_rests p l.start l.i c.loop-i-test.false l.invariant.within in
    elim c.if-start-packet.branch [
      | then-start-packet+in_ok-add_line-2 w ↦
          let more : 0 < length (drop l.start p) = omega (arith, length-drop l.start p, w.if-start-packet.true) in
          ap (λ (reading : Reading). reading.parts.items) w.reading-is ∙ sym (append-nil _)
          ∙ parts_step old w.add_line-then-start-packet.new.self.parts.items
          (take (length p - l.start) (drop l.start p)) (drop l.start p) (left_at p l.start l.i) [] all
          w.in_ok-add_line-2.ensures.parts (all_behind p l.start) (rests ∙ rest_some (drop l.start p) more)
          l.invariant.parts
      | else-start-packet w ↦
          let none : length (drop l.start p) ≡ 0 = omega (arith, length-drop l.start p, w.if-start-packet.false) in
          ap (λ (reading : Reading). reading.parts.items) w.reading-is ∙ sym (append-nil old)
          ∙ ap (λ (lines : List (List ℕ)). old ++ said_of_lines lines) (sym (rests ∙ rest_none (drop l.start p) none))
          ∙ l.invariant.parts
    ]

pub returns-clause-refused : goal.returns-clause-refused
returns-clause-refused c =
    let l = c.loop-i in
    let p = c.args.packet.now in
    let all = refused_lines (lines_of p) in
    let old = l.reading.refused in
    let rests = line_rests p l.start l.i c.loop-i-test.false l.invariant.within in
    elim c.if-start-packet.branch [
      | then-start-packet+in_ok-add_line-2 w ↦
          let more : 0 < length (drop l.start p) = omega (arith, length-drop l.start p, w.if-start-packet.true) in
          let step = refused_step old w.add_line-then-start-packet.new.self.refused
          (take (length p - l.start) (drop l.start p)) (drop l.start p) (left_at p l.start l.i) [] all
          w.in_ok-add_line-2.ensures.refused (all_behind p l.start)
          (rests ∙ rest_some (drop l.start p) more) l.invariant.refused in
          ap (λ (reading : Reading). reading.refused) w.reading-is ∙ omega (arith, step)
      | else-start-packet w ↦
          let none : length (drop l.start p) ≡ 0 = omega (arith, length-drop l.start p, w.if-start-packet.false) in
          let step = ap (λ (lines : List (List ℕ)). old + refused_lines lines)
          (sym (rests ∙ rest_none (drop l.start p) none)) ∙ l.invariant.refused in
          ap (λ (reading : Reading). reading.refused) w.reading-is ∙ omega (arith, step)
    ]
