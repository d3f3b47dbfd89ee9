-- No build file is named as the log.
use Rattle.std.proofs.Common.{◌≡◌, ◌∙◌, ◌++◌, ◌∷◌, [], ℕ, List, Option, Some, None, All, bytes_eq, get_or, reverse, refl, sym, ap, arith}
use Rattle.std.proofs.lemmas.List.{reverse-append}
use Rattle.std.proofs.lemmas.List.Elements.{All-get_or}
use Rattle.std.proofs.lemmas.List.Quantifiers.{position-Some}
use Rattle.std.proofs.lemmas.Slice.Eq.{bytes_eq-Decides}
use Rattle.meson_splice.specs.Files.{position_of_file}
use Rattle.meson_splice.specs.declared.file_set.File.{File}
use Rattle.meson_calls.specs.Folders.{IsFileName, build_file}
use Rattle.meson_calls.specs.Loading.{HasFileName}
use Rattle.meson_calls.proofs.Entered.{ends_so}
use Rattle.meson_rewrite.specs.Logs.{log_name}

abbrev first : List ℕ → ℕ
first [] = 0
first (x ∷ more) = x

-- the last byte tells them apart
other_end : (front : List ℕ) → log_name ≡ front ++ build_file → ⊥
other_end front is =
    let ends : 103 ≡ 100 = ap first (ap reverse is ∙ reverse-append front build_file) in
    omega (arith, ends)

pub other_name : (name : List ℕ) → IsFileName name → name ≡ log_name → ⊥
other_name name named is = ends_so name named (λ front ends. other_end front (sym is ∙ ends))

nobody : File
nobody = record { name = []; bytes = [] }

not_found : (files : List File) → All HasFileName files → (o : Option ℕ) → position_of_file log_name files ≡ o → position_of_file log_name files ≡ None
not_found files named None is = is
not_found files named (Some i) is =
    let at = position-Some (λ f. bytes_eq f.name log_name) files i nobody is in
    let f = get_or files i nobody in
    absurd (other_name f.name (All-get_or HasFileName files i nobody at.0 named) ((bytes_eq-Decides f.name log_name).0 at.1))

pub no_log : (files : List File) → All HasFileName files → position_of_file log_name files ≡ None
no_log files named = not_found files named (position_of_file log_name files) refl
