-- The lines of an account, one more at a time.
use Rattle.std.proofs.Common.{◌≡◌, ℕ, ◌+◌, ◌<◌, ◌≤◌, List, [], ◌∷◌, ◌++◌, length, get_or, drop, Option, Some, None}
use Rattle.std.proofs.Common.{refl}
use Rattle.std.proofs.Common.{sym, ap, ◌∙◌, append_assoc, arith}
use Rattle.std.proofs.lemmas.List.{append-nil, drop_more, drop_all}
use Rattle.journal_reader.specs.declared.account_lines.Form.{Form}
use Rattle.journal_reader.specs.declared.account_lines.Form.TheVariants.{Input, Groups, Items, Output}
use Rattle.journal_reader.specs.AccountReading.{input_forms, groups_forms, output_forms}

-- the forms of what is left behind those before
pub input_more : (forms : List Form) (inputs : List (Option ℕ)) (i : ℕ) → i < length inputs
    → (forms ++ Input i ∷ []) ++ input_forms (i + 1) (drop (i + 1) inputs) ≡ forms ++ input_forms i (drop i inputs)
input_more forms inputs i lt =
    append_assoc forms (Input i ∷ []) (input_forms (i + 1) (drop (i + 1) inputs))
    ∙ ap (λ (rest : List (Option ℕ)). forms ++ input_forms i rest) (sym (drop_more inputs i None lt))

pub input_all : (forms : List Form) (inputs : List (Option ℕ)) (i : ℕ) → length inputs ≤ i
    → forms ++ input_forms i (drop i inputs) ≡ forms
input_all forms inputs i le =
    ap (λ (rest : List (Option ℕ)). forms ++ input_forms i rest) (drop_all i inputs le) ∙ append-nil forms

pub output_more : (forms : List Form) (outputs : List (ℕ × ℕ)) (i : ℕ) → i < length outputs
    → (forms ++ Output i ∷ []) ++ output_forms (i + 1) (drop (i + 1) outputs) ≡ forms ++ output_forms i (drop i outputs)
output_more forms outputs i lt =
    append_assoc forms (Output i ∷ []) (output_forms (i + 1) (drop (i + 1) outputs))
    ∙ ap (λ (rest : List (ℕ × ℕ)). forms ++ output_forms i rest) (sym (drop_more outputs i (0, 0) lt))

pub output_all : (forms : List Form) (outputs : List (ℕ × ℕ)) (i : ℕ) → length outputs ≤ i
    → forms ++ output_forms i (drop i outputs) ≡ forms
output_all forms outputs i le =
    ap (λ (rest : List (ℕ × ℕ)). forms ++ output_forms i rest) (drop_all i outputs le) ∙ append-nil forms
