-- A path as it is appended.
use Rattle.std.proofs.Common.{◌≡◌, ℕ, true, false, cond, List, [], ◌∷◌, ◌++◌, map, refl, sym, ap, ◌∙◌, append_assoc}
use Rattle.std.specs.Prelude.{not, filter, flat_map, codes}
use Rattle.std.specs.List.{join_with_byte}
use Rattle.std.specs.Str.{bytes_eq}
use Rattle.std.proofs.lemmas.List.{append-nil}
use Rattle.metric.specs.declared.metric.Content.{Content}
use Rattle.metric.specs.Draft.{Tag}
use Rattle.graphite_text.specs.Writing.{value_part, name_part, is_host, is_no_host, values_of, key_parts, path_text}
use Rattle.graphite_text.specs.Pieces.{dotted_value, host_text, other_text, key_text}

-- texts, each with a dot behind it
each_dotted : List (List ℕ) → List ℕ
each_dotted [] = []
each_dotted (text ∷ texts) = text ++ (46 ∷ each_dotted texts)

-- texts in front of others
joined_front : (front : List (List ℕ)) (text : List ℕ) (texts : List (List ℕ))
    → join_with_byte 46 (front ++ (text ∷ texts)) ≡ each_dotted front ++ join_with_byte 46 (text ∷ texts)
unfolding each_dotted
joined_front [] text texts = refl
joined_front (first ∷ []) text texts = sym (append_assoc first (46 ∷ []) (join_with_byte 46 (text ∷ texts)))
joined_front (first ∷ second ∷ front) text texts =
    ap (λ (t : List ℕ). first ++ (46 ∷ t)) (joined_front (second ∷ front) text texts)
    ∙ sym (append_assoc first (46 ∷ each_dotted (second ∷ front)) (join_with_byte 46 (text ∷ texts)))

hosts_are : (tags : List Tag) → flat_map host_text tags ≡ each_dotted (values_of is_host tags)
unfolding each_dotted
hosts_are [] = refl
hosts_are (tag ∷ tags) = elim (is_host tag) as (λ t. cond t (dotted_value tag) []
    ++ flat_map host_text tags ≡ each_dotted (map (λ (x : Tag). value_part x.1)
    (cond t (tag ∷ filter is_host tags) (filter is_host tags)))) [
      | true ↦ append_assoc (value_part tag.1) (46 ∷ []) (flat_map host_text tags)
          ∙ ap (λ (t : List ℕ). value_part tag.1 ++ (46 ∷ t)) (hosts_are tags)
      | false ↦ hosts_are tags
    ]

others_are : (tags : List Tag) → flat_map other_text tags ≡ each_dotted (values_of is_no_host tags)
unfolding each_dotted
others_are [] = refl
others_are (tag ∷ tags) = elim (is_host tag) as (λ t. cond t [] (dotted_value tag)
    ++ flat_map other_text tags ≡ each_dotted (map (λ (x : Tag). value_part x.1)
    (cond (not t) (tag ∷ filter is_no_host tags) (filter is_no_host tags)))) [
      | true ↦ others_are tags
      | false ↦ append_assoc (value_part tag.1) (46 ∷ []) (flat_map other_text tags)
          ∙ ap (λ (t : List ℕ). value_part tag.1 ++ (46 ∷ t)) (others_are tags)
    ]

end_is : (name key : List ℕ) → join_with_byte 46 (name_part name ∷ key_parts key) ≡ name_part name ++ key_text key
end_is name key = elim (bytes_eq key (codes "value")) as (λ t. join_with_byte 46
    (name_part name ∷ cond t [] (name_part key ∷ [])) ≡ name_part name ++ cond t [] (codes "." ++ name_part key)) [
      | true ↦ sym (append-nil (name_part name))
      | false ↦ refl
    ]

front_assoc : (front second : List (List ℕ)) (rest : List (List ℕ))
    → (front ++ second) ++ rest ≡ front ++ (second ++ rest)
front_assoc front second rest = append_assoc front second rest

dotted_append : (front second : List (List ℕ)) → each_dotted (front ++ second) ≡ each_dotted front ++ each_dotted second
unfolding each_dotted
dotted_append [] second = refl
dotted_append (text ∷ front) second = ap (λ (t : List ℕ). text ++ (46 ∷ t)) (dotted_append front second)
    ∙ sym (append_assoc text (46 ∷ each_dotted front) (each_dotted second))

pub path_is : (m : Content) (key : List ℕ) → flat_map host_text m.tags ++ flat_map other_text m.tags ++ name_part m.name
    ++ key_text key ≡ path_text m key
unfolding path_text
path_is m key =
    let hosts : List (List ℕ) = values_of is_host m.tags in
    let others : List (List ℕ) = values_of is_no_host m.tags in
    let whole : join_with_byte 46 (hosts ++ (others ++ (name_part m.name ∷ key_parts key))) ≡ each_dotted
    (hosts ++ others) ++ (name_part m.name ++ key_text key) =
    ap (join_with_byte 46) (sym (append_assoc hosts others (name_part m.name ∷ key_parts key)))
    ∙ joined_front (hosts ++ others) (name_part m.name) (key_parts key)
    ∙ ap (λ (t : List ℕ). each_dotted (hosts ++ others) ++ t) (end_is m.name key) in
    let front : flat_map host_text m.tags ++ flat_map other_text m.tags ≡ each_dotted (hosts ++ others) =
    rw (hosts_are m.tags, others_are m.tags) (sym (dotted_append hosts others)) in
    rw front (append_assoc (each_dotted (hosts ++ others)) (name_part m.name) (key_text key)) ∙ sym whole
