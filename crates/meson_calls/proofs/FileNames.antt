-- Names of build files.
use Rattle.meson_calls.proofs.Words.{false, IsTrue, codes, bytes_eq, ◌≡◌, ℕ, List, sym, ap, ◌∙◌, inl, inr, Bool, not_from_Decides, append_cancel_right}
use Rattle.meson_calls.proofs.Words.{bytes_eq-Decides, build_file, in_folder, is_plain_folder, IsFileName}

-- a name that ends in a slash and `meson.build`
module _ (name folder : List ℕ) (b : Bool) (is : name ≡ in_folder folder) (plain : b ≡ is_plain_folder folder) where
  there : IsTrue b → IsFileName name
  there so = inr (folder, is, sym plain ∙ so)

  back : (bytes_eq name build_file ≡ false) → IsFileName name → IsTrue b
  back other (inl e) = absurd (not_from_Decides _ (bytes_eq-Decides name build_file) other e)
  back other (inr (found, e, so)) = plain ∙ ap is_plain_folder (append_cancel_right folder found (codes "/meson.build") (sym is ∙ e)) ∙ so

  pub file_name-folder : bytes_eq name build_file ≡ false → (IsTrue b → IsFileName name) × (IsFileName name → IsTrue b)
  file_name-folder other = (there, back other)
