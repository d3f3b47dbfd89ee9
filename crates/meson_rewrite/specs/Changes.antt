-- What is listed of a history.
use Rattle.std.specs.Prelude.{◌≡◌, ◌≢◌, ℕ, ◌+◌, Bool, List, [], ◌∷◌, ◌++◌, length, reverse, codes, decimal, bytes_eq, if◌then◌else◌}
use Rattle.std.specs.List.{AllPairs, list_any}
use Rattle.meson_splice.specs.declared.change.Change.{Change}
use Rattle.meson_splice.specs.declared.history.History.{History}
use Rattle.meson_splice.specs.declared.splice.Splice.{Splice}
use Rattle.meson_rewrite.specs.Lines.{line}

-- a splice of that file is among them
abbrev pub is_edited : List ℕ → List Splice → Bool
is_edited file splices = list_any (λ s. bytes_eq s.file file) splices

-- the files that they edit, each once
abbrev pub edited_files : List Splice → List (List ℕ)
edited_files [] = []
edited_files (s ∷ splices) = if is_edited s.file splices then edited_files splices else s.file ∷ edited_files splices

-- these are the files that the splices edit, each once
pub record AreEdited (splices : List Splice) (files : List (List ℕ)) : Type 0 where
  pub edited : (file : List ℕ) → list_any (λ f. bytes_eq f file) files ≡ is_edited file splices
  pub each_once : AllPairs (λ x y. x ≢ y) files

-- what a change is for, if it has a title
abbrev pub title_part : List ℕ → List ℕ
title_part [] = []
title_part (b ∷ title) = codes ", title: " ++ b ∷ title

abbrev pub change_head : List ℕ → ℕ → List Splice → List ℕ
change_head word number splices =
    word ++ (codes " " ++ (decimal number ++ (codes ": files: "
    ++ (decimal (length (edited_files splices)) ++ (codes ", splices: " ++ decimal (length splices))))))

abbrev pub change_line : List ℕ → ℕ → Change → List ℕ
change_line word number change = line (change_head word number change.splices ++ title_part change.title)

-- one for each change, numbered from there
abbrev pub change_lines : List ℕ → ℕ → List Change → List ℕ
change_lines word number [] = []
change_lines word number (c ∷ changes) = change_line word number c ++ change_lines word (number + 1) changes

-- what can be undone, the newest first, followed by what can be done again, the next first
abbrev pub history_lines : History → List ℕ
history_lines h = change_lines (codes "undo") 1 (reverse h.past) ++ change_lines (codes "redo") 1 (reverse h.future)
