use Rattle.std.proofs.Common.{rules, ◌≡◌, ◌++◌, ℕ, List, take, drop, map, ap, ◌∙◌}
use Rattle.text_buffer.proofs.Placing.{changed}
use Rattle.text_buffer.proofs.buffer.TextBuffer.translate.Goals as goal

pub returns : goal.returns
returns c = λ f table.
    let len = c.self.inside.len in
    let cells = c.deref_mut.result.now in
    let seen : take len cells ≡ c.args.self.now.items = search rules in
    changed f cells c.translate.new.bytes _ _ c.args.start len c.self.inside.cells.len (search rules)
    (search rules) (search rules)
    (c.translate.ensures f table)
    ∙ ap (λ (text : List ℕ). take c.args.start text ++ map f (drop c.args.start text)) seen
