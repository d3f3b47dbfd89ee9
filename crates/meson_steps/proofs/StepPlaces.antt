-- The code of a step is laid out where its edit is, and each edit makes the text of the edited tree.
use Rattle.meson_steps.proofs.Words.{◌≡◌, ℕ, List, ◌∷◌, refl, sym, ap, subst, Bool, true, false, None, Some, option_map, All, Span, Plain, erase}
use Rattle.meson_steps.proofs.Words.{some-injective, Edit, First, After, Remove, Replace, Wrap, RemoveStatement, Append, Assign, Lines, edited, edited_list, IsEditOf, Spelled}
use Rattle.meson_steps.proofs.Words.{Writes, primitive_of, place, AreDoable, MayStandBetween, one, bare, bare_edit, path_of, Step, list_of, stepped, ListEdit}
use Rattle.meson_steps.proofs.Words.{ListStep, edits_list, placed_edit}
use Rattle.meson_syntax.specs.Tree.{File}
use Rattle.meson_edit.specs.Edits.{above, below, at_end}
use Rattle.meson_edit.proofs.lists.Answers as lists
use Rattle.meson_edit.proofs.statements.Appended as appended
use Rattle.meson_edit.proofs.statements.Assigned as assigned
use Rattle.meson_edit.proofs.statements.Lined as lines
use Rattle.meson_edit.proofs.statements.Removed as removed

-- ---- the code of a step

pub record IsCode (f : File Span) (s : Step) (code : ListStep) : Type 0 where
  pub file : code.list.file ≡ s.file
  pub laid : placed_edit f code.list.path.steps code.edit ≡ primitive_of f s.edit

code_is : (f : File Span) (file : ℕ) (e : Edit) (b : ListEdit) (code : ListStep) → placed_edit f (path_of e) b ≡ primitive_of f e → Some (record { list = place file (path_of e); edit = b }) ≡ Some code
    → IsCode f (record { file = file; edit = e }) code
code_is f file e b code laid is =
    let same : record { list = place file (path_of e); edit = b } ≡ code = cc in
    subst (IsCode f (record { file = file; edit = e })) same (record { file = refl; laid = laid })

edit_code : (f : File Span) (file : ℕ) (e : Edit) (code : ListStep) → option_map (λ b. record { list = place file (path_of e); edit = b }) (bare_edit e) ≡ Some code → IsCode f (record { file = file; edit = e }) code
edit_code f file (First path new) code is = code_is f file (First path new) _ code refl is
edit_code f file (After path n new) code is = code_is f file (After path n new) _ code refl is
edit_code f file (Remove path n) code is = code_is f file (Remove path n) _ code refl is
edit_code f file (Replace path n new) code is = code_is f file (Replace path n new) _ code refl is
edit_code f file (Wrap path n) code is = code_is f file (Wrap path n) _ code refl is
edit_code f file (RemoveStatement blank path n) code is = code_is f file (RemoveStatement blank path n) _ code refl is
edit_code f file (Append new) code is = code_is f file (Append new) _ code refl is
edit_code f file (Assign path new) code is = code_is f file (Assign path new) _ code refl is
edit_code f file (Lines (above path n) new) code is = code_is f file (Lines (above path n) new) _ code refl is
edit_code f file (Lines (below path n) new) code is = code_is f file (Lines (below path n) new) _ code refl is
edit_code f file (Lines at_end new) code is = code_is f file (Lines at_end new) _ code refl is

pub step_code : (f : File Span) (s : Step) (code : ListStep) → bare s ≡ Some code → IsCode f s code
step_code f s code is = edit_code f s.file s.edit code is

-- ---- what an edit makes

pub every_edit : (e : Edit) → Spelled e
every_edit (First path new) = lists.firsts-spell path new
every_edit (After path n new) = lists.insertions-spell path n new
every_edit (Remove path n) = lists.removals-spell path n
every_edit (Replace path n new) = lists.replacements-spell path n new
every_edit (Wrap path n) = lists.wraps-spell path n
every_edit (RemoveStatement blank path n) = removed.removals-spell blank path n
every_edit (Append new) = appended.appended-spell new
every_edit (Assign path new) = assigned.assignments-spell path new
every_edit (Lines place new) = lines.lines-spell place new

-- ---- the next step

pub record NextDoable (s : Step) (rest : List Step) (trees : List Plain) : Type 0 where
  pub between : List Plain
  pub writes : Writes s.edit
  pub is : stepped s trees ≡ Some between
  pub stand : All MayStandBetween between
  pub doable : AreDoable rest between

pub next_doable : (s : Step) (rest : List Step) (trees : List Plain) → AreDoable (s ∷ rest) trees → NextDoable s rest trees
next_doable s rest trees (one t steps ts between writes is stand doable) = record { between = between; writes = writes; is = is; stand = stand; doable = doable }

-- ---- lists

-- an edit of a list, as a law names it
pub list_there : (e : Edit) (f : File Span) (path : List ℕ) (t : Plain) → list_of e ≡ Some path → edited e (erase f) ≡ Some t → IsEditOf path e × (edited_list e path (erase f) ≡ Some t)
list_there (First list new) f path t of is = let same = some-injective list path of in (sym same, subst (λ l. edited_list (First list new) l (erase f) ≡ Some t) same is)
list_there (After list n new) f path t of is = let same = some-injective list path of in (sym same, subst (λ l. edited_list (After list n new) l (erase f) ≡ Some t) same is)
list_there (Remove list n) f path t of is = let same = some-injective list path of in (sym same, subst (λ l. edited_list (Remove list n) l (erase f) ≡ Some t) same is)
list_there (Replace list n new) f path t of is = let same = some-injective list path of in (sym same, subst (λ l. edited_list (Replace list n new) l (erase f) ≡ Some t) same is)
list_there (Wrap list n) f path t of is = let same = some-injective list path of in (sym same, subst (λ l. edited_list (Wrap list n) l (erase f) ≡ Some t) same is)
list_there (RemoveStatement blank block n) f path t of is = absurd cc
list_there (Append new) f path t of is = absurd cc
list_there (Assign assignment new) f path t of is = absurd cc
list_there (Lines place new) f path t of is = absurd cc

-- whether it is one, by its code
of_code : (file : ℕ) (path : List ℕ) (b : ListEdit) (code : ListStep) → Some (record { list = place file path; edit = b }) ≡ Some code → (b ≡ code.edit) × (path ≡ code.list.path.steps)
of_code file path b code is =
    let same : record { list = place file path; edit = b } ≡ code = cc in
    (ap (λ (c : ListStep). c.edit) same, ap (λ (c : ListStep). c.list.path.steps) same)

abbrev pub ListBy : Bool → List ℕ → Edit → Type 0
ListBy true path e = list_of e ≡ Some path
ListBy false path e = list_of e ≡ None

list_code : (e : Edit) (b : ListEdit) (file : ℕ) (code : ListStep) → ((l : List ℕ) → l ≡ path_of e → ListBy (edits_list b) l e) → Some (record { list = place file (path_of e); edit = b }) ≡ Some code
    → ListBy (edits_list code.edit) code.list.path.steps e
list_code e b file code by is =
    let same = of_code file (path_of e) b code is in
    subst (λ c. ListBy (edits_list c) code.list.path.steps e) same.0 (by code.list.path.steps (sym same.1))

by_code : (e : Edit) (file : ℕ) (code : ListStep) → option_map (λ b. record { list = place file (path_of e); edit = b }) (bare_edit e) ≡ Some code → ListBy (edits_list code.edit) code.list.path.steps e
by_code (First path new) file code is = list_code (First path new) _ file code (λ l same. ap Some (sym same)) is
by_code (After path n new) file code is = list_code (After path n new) _ file code (λ l same. ap Some (sym same)) is
by_code (Remove path n) file code is = list_code (Remove path n) _ file code (λ l same. ap Some (sym same)) is
by_code (Replace path n new) file code is = list_code (Replace path n new) _ file code (λ l same. ap Some (sym same)) is
by_code (Wrap path n) file code is = list_code (Wrap path n) _ file code (λ l same. ap Some (sym same)) is
by_code (RemoveStatement blank path n) file code is = list_code (RemoveStatement blank path n) _ file code (λ l same. refl) is
by_code (Append new) file code is = list_code (Append new) _ file code (λ l same. refl) is
by_code (Assign path new) file code is = list_code (Assign path new) _ file code (λ l same. refl) is
by_code (Lines place new) file code is = list_code (Lines place new) _ file code (λ l same. refl) is

pub step_list : (s : Step) (code : ListStep) → bare s ≡ Some code → edits_list code.edit ≡ true → list_of s.edit ≡ Some code.list.path.steps
step_list s code is of_list = subst (λ b. ListBy b code.list.path.steps s.edit) of_list (by_code s.edit s.file code is)

pub step_none : (s : Step) (code : ListStep) → bare s ≡ Some code → edits_list code.edit ≡ false → list_of s.edit ≡ None
step_none s code is other = subst (λ b. ListBy b code.list.path.steps s.edit) other (by_code s.edit s.file code is)
