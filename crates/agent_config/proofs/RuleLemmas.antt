-- What is renamed has a name to be renamed to.
use Rattle.std.proofs.Common.{◌≡◌, ◌==◌, ◌<◌, ℕ, Bool, true, false, List, [], ◌∷◌, length, refl, arith}
use Rattle.std.proofs.lemmas.List.Elements.{All-append, All-cons, All-nil}
use Rattle.std.specs.List.{All}
use Rattle.std.specs.Prelude.{codes}
use Rattle.toml.specs.Data.{Members}
use Rattle.proc_edit.specs.Rename.{HasDest}
use Rattle.agent_config.specs.Steps.{inner_text, replacement_of, replacements_of}
use Rattle.agent_config.specs.Unless.{unless}

filled : (text : List ℕ) → (length text == 0) ≡ false → 0 < length text
filled [] e = absurd (let x : true ≡ false = e in cc)
filled (x ∷ text) e = omega arith

one_has_dest : (members : Members) →
    All HasDest (unless (length (inner_text (codes "dest") members) == 0) (replacement_of members))
one_has_dest members =
    let dest = inner_text (codes "dest") members in
    elim (length dest == 0) as (λ none. (length dest == 0) ≡ none → All HasDest (unless none
    (replacement_of members))) [
      | true ↦ λ e. All-nil HasDest
      | false ↦ λ e. All-cons HasDest (replacement_of members) [] (filled dest e) (All-nil HasDest)
    ] refl

pub have_dests : (tables : List Members) → All HasDest (replacements_of tables)
have_dests [] = All-nil HasDest
have_dests (members ∷ tables) =
    All-append HasDest (unless (length (inner_text (codes "dest") members) == 0) (replacement_of members))
    (replacements_of tables) (one_has_dest members) (have_dests tables)
