-- The folder of a build file's name.
use Rattle.meson_calls.proofs.Words.{false, if◌then◌else◌, ◌==◌, codes, ◌≡◌, ℕ, ◌+◌, List, []}
use Rattle.meson_calls.proofs.Words.{◌∷◌, ◌++◌, refl, sym, ap, ◌∙◌, inl, inr, Bool, true, Some, None, eqb_tells, append_assoc}
use Rattle.meson_calls.proofs.Words.{append_cancel_right}
use Rattle.meson_calls.proofs.Words.{parts_after}
use Rattle.meson_calls.proofs.Words.{folder_parts, folder_of, build_file, in_folder, is_plain_folder, file_in, IsFileName}
use Rattle.meson_calls.proofs.SlashParts.{other_byte, slash}

-- ---- the folder of a name

-- with a part before others
part_before : (part read cs : List ℕ) → folder_parts (part ∷ parts_after read cs) ≡ part ++ (47 ∷ folder_parts (parts_after read cs))
part_before part read [] = refl
part_before part read (c ∷ cs) = go (c == 47) (part_before part (read ++ c ∷ []) cs)
  where
    go : (b : Bool) → folder_parts (part ∷ parts_after (read ++ c ∷ []) cs) ≡ part ++ (47 ∷ folder_parts (parts_after (read ++ c ∷ []) cs)) →
        folder_parts (part ∷ (if b then read ∷ parts_after [] cs else parts_after (read ++ c ∷ []) cs))
        ≡ part ++ (47 ∷ folder_parts (if b then read ∷ parts_after [] cs else parts_after (read ++ c ∷ []) cs))
    go true more = refl
    go false more = more

module _ (read rest cs : List ℕ) (c : ℕ) where
  at_slash : c ≡ 47 → folder_parts (parts_after [] rest) ≡ cs ++ 47 ∷ [] → folder_parts (parts_after read (c ∷ rest)) ≡ read ++ (c ∷ (cs ++ 47 ∷ []))
  at_slash is more =
      ap folder_parts (slash read rest c is)
      ∙ part_before read [] rest
      ∙ ap (λ t. read ++ (47 ∷ t)) more
      ∙ ap (λ k. read ++ (k ∷ (cs ++ 47 ∷ []))) (sym is)

  at_other : (c ≡ 47 → ⊥) → folder_parts (parts_after (read ++ c ∷ []) rest) ≡ (read ++ c ∷ []) ++ (cs ++ 47 ∷ []) → folder_parts (parts_after read (c ∷ rest)) ≡ read ++ (c ∷ (cs ++ 47 ∷ []))
  at_other other more = ap folder_parts (other_byte read rest c other) ∙ more ∙ append_assoc read (c ∷ []) (cs ++ 47 ∷ [])

folder_read : (read cs : List ℕ) → folder_parts (parts_after read (cs ++ codes "/meson.build")) ≡ read ++ (cs ++ 47 ∷ [])
folder_read read [] = refl
folder_read read (c ∷ cs) =
    let rest = cs ++ codes "/meson.build" in
    elim (eqb_tells c 47) [ inl is ↦ at_slash read rest cs c is.1 (folder_read [] cs) | inr other ↦ at_other read rest cs c other.1 (folder_read (read ++ c ∷ []) cs) ]

module _ (name front : List ℕ) (is : name ≡ front ++ build_file) where
  pub folder_before : IsFileName name → front ≡ folder_of name
  folder_before (inl e) = append_cancel_right front [] build_file (sym is ∙ e) ∙ sym (ap folder_of e)
  folder_before (inr (folder, e, plain)) =
      append_cancel_right front (folder ++ 47 ∷ []) build_file (sym is ∙ e ∙ sym (append_assoc folder (47 ∷ []) build_file))
      ∙ sym (folder_read [] folder)
      ∙ sym (ap folder_of e)

-- the name of a build file ends as such
pub ends_so : (name : List ℕ) → IsFileName name → ((front : List ℕ) → name ≡ front ++ build_file → ⊥) → ⊥
ends_so name (inl e) none = none [] e
ends_so name (inr (folder, e, plain)) none = none (folder ++ 47 ∷ []) (e ∙ sym (append_assoc folder (47 ∷ []) build_file))

pub plain_file : (name folder : List ℕ) → is_plain_folder folder ≡ true → file_in name folder ≡ Some (folder_of name ++ (folder ++ codes "/meson.build"))
plain_file name folder is = ap (λ b. if b then Some (folder_of name ++ in_folder folder) else None) is
