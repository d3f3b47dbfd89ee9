-- What steps replaced, and the trees once it is put back.
use Rattle.std.specs.List.{list_any}
use Rattle.std.specs.Prelude.{◌≡◌, ℕ, zero, suc, ◌+◌, ◌-◌, ◌^◌, ◌<◌, ◌≤◌, Bool, List, [], ◌∷◌, ◌++◌, ◌==◌, length, slice_index_or, slice_set, ⊤}
use Rattle.meson_lex.specs.declared.kinds.Span.{Span}
use Rattle.meson_syntax.specs.declared.tree.Parsed.{Parsed}
use Rattle.meson_syntax.specs.Furthest.{furthest}
use Rattle.meson_syntax.specs.ListPut.{list_exchanged}
use Rattle.meson_syntax.specs.Paths.{ListAt}
use Rattle.meson_syntax.specs.Reads.{wide}
use Rattle.meson_edit.specs.ExchangedTrees.{IsExchange}
use Rattle.meson_steps.specs.declared.journal.Saved.{Saved}
use Rattle.meson_steps.specs.declared.journal.Saved.TheVariants as saved
use Rattle.meson_steps.specs.declared.journal.SavedList.{SavedList}

-- ---- trees

-- the trees with the i-th one changed; if there are no more than i, they stay
abbrev pub changed_tree : ℕ → (Parsed → Parsed) → List Parsed → List Parsed
changed_tree i change [] = []
changed_tree zero change (t ∷ trees) = change t ∷ trees
changed_tree (suc i) change (t ∷ trees) = t ∷ changed_tree i change trees

-- the trees with what one step replaced put back
abbrev pub put_one : Saved → List Parsed → List Parsed
put_one (saved.Tree file tree) trees = slice_set trees file tree
put_one (saved.List s) trees = changed_tree s.place.file (list_exchanged s.place.path.steps s.from s.now s.was s.list) trees

-- the trees with all of it put back, the newest, which is last, first
abbrev pub put_back : List Saved → List Parsed → List Parsed
put_back [] trees = trees
put_back (s ∷ more) trees = put_one s (put_back more trees)

-- ---- borders

-- The borders of a tree may move as they do when the `was` bytes at `from` become `now` bytes.
pub record MayShift (from was now : ℕ) (t : Parsed) : Type 0 where
  pub some : 1 ≤ was
  pub inside : from + was ≤ t.span.to
  pub ends : furthest t ≤ t.span.to
  pub fits : (t.span.to - was) + now < 2 ^ 64

abbrev pub MayPut : Saved → List Parsed → Type 0
MayPut (saved.Tree file tree) trees = ⊤
MayPut (saved.List s) trees = s.place.file < length trees → (d : Parsed) → MayShift s.from s.now s.was (slice_index_or trees s.place.file d)

-- Borders may move so at each list while all is put back.
abbrev pub MayPutBack : List Saved → List Parsed → Type 0
MayPutBack [] trees = ⊤
MayPutBack (s ∷ more) trees = MayPut s (put_back more trees) × MayPutBack more trees

-- What is saved may be put back, and that gives these trees.
pub record PutsBack (saved : List Saved) (trees first : List Parsed) : Type 0 where
  pub may : MayPutBack saved trees
  pub gives : put_back saved trees ≡ first

-- ---- which files

abbrev pub saved_file : Saved → ℕ
saved_file (saved.Tree file tree) = file
saved_file (saved.List s) = s.place.file

-- whether something of a file is saved
abbrev pub is_saved : ℕ → List Saved → Bool
is_saved file saved = list_any (λ s. saved_file s == file) saved

-- ---- lists

-- The list of `new`, which is parsed from the text `now`, may take the place of the list that is there in the tree.
pub record MayTake (t : Parsed) (new : SavedList) : Type 0 where
  pub bytes : List ℕ
  pub p : ListAt Span
  pub front : List ℕ
  pub was : List ℕ
  pub now : List ℕ
  pub back : List ℕ
  pub is : IsExchange wide bytes t new.place.path.steps p front was now back new.list
  pub from_is : new.from ≡ length front
  pub was_is : new.was ≡ length was
  pub now_is : new.now ≡ length now
  pub before_fits : length bytes < 2 ^ 64
  pub after_fits : length (front ++ (now ++ back)) < 2 ^ 64
