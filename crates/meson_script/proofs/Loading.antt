-- Files that load, want of memory aside.
use Rattle.std.proofs.Common.{ℕ, zero, suc, ◌<◌, List, [], ◌∷◌, length, refl, arith}
use Rattle.std.specs.Prelude.{◌≢◌, All}
use Rattle.std.proofs.lemmas.List.Elements.{All-nil, All-cons, All-head, All-tail}
use Rattle.meson_splice.specs.declared.file_set.File.{File}
use Rattle.meson_splice.specs.Files.{bytes_at}
use Rattle.meson_syntax.specs.declared.fault.ParseFault.{ParseFault}
use Rattle.meson_syntax.specs.declared.fault.ParseFault.TheVariants as parse
use Rattle.meson_syntax.specs.declared.tree.Parsed.{Parsed}
use Rattle.meson_syntax.specs.Tree.{Plain}
use Rattle.meson_syntax.specs.Reads.{Reads, MayNotRead, of_files}
use Rattle.meson_syntax.proofs.parsing.Refusals.{unreadable-none}
use Rattle.meson_calls.specs.declared.load_fault.LoadFault.TheVariants.{TooManyFiles, BadFileName, Parse, OutOfMemory}
use Rattle.meson_calls.specs.Folders.{IsFileName}
use Rattle.meson_calls.specs.Loading.{Loaded, IsProject, AreParsed, HasFileName, HasTree, name_of_file}
use Rattle.meson_script.specs.Stack.{Loads}
use Rattle.meson_script.specs.Laws.{LoadsOrWantsMemory}

-- ---- the files of a project

trees-of : (files : List File) (parsed : List Parsed) → AreParsed files parsed → All HasTree files
trees-of [] parsed h = All-nil HasTree
trees-of (f ∷ files) [] h = absurd h
trees-of (f ∷ files) (t ∷ parsed) h = All-cons HasTree f files (_, h.0.reads) (trees-of files parsed h.1)

pub project-loads : (p : Loaded) → IsProject p → Loads p.files
project-loads p h = record { few = h.few; named = h.named; trees = trees-of p.files p.parsed h.parsed }

-- ---- and their faults

named_at : (files : List File) (i : ℕ) → i < length files → All HasFileName files → IsFileName (name_of_file i files)
named_at [] i within all = absurd (omega arith)
named_at (f ∷ files) zero within all = All-head HasFileName f files all
named_at (f ∷ files) (suc i) within all = let below : i < length files = omega arith in named_at files i below (All-tail HasFileName f files all)

tree_at : (files : List File) (i : ℕ) → i < length files → All HasTree files → (t : Plain) × Reads (bytes_at i files) t
tree_at [] i within all = absurd (omega arith)
tree_at (f ∷ files) zero within all = All-head HasTree f files all
tree_at (f ∷ files) (suc i) within all = let below : i < length files = omega arith in tree_at files i below (All-tail HasTree f files all)

-- bytes that read as a tree get no fault but want of memory
no_fault : (bytes : List ℕ) (t : Plain) (fault : ParseFault) → Reads bytes t → fault ≢ parse.OutOfMemory → MayNotRead bytes fault → ⊥
no_fault bytes t parse.TooLarge reads told why = unreadable-none of_files bytes parse.TooLarge why t reads
no_fault bytes t parse.NotUtf8 reads told why = unreadable-none of_files bytes parse.NotUtf8 why t reads
no_fault bytes t parse.ByteOrderMark reads told why = unreadable-none of_files bytes parse.ByteOrderMark why t reads
no_fault bytes t (parse.Lex fault) reads told why = unreadable-none of_files bytes (parse.Lex fault) why t reads
no_fault bytes t (parse.Unexpected at) reads told why = why.1 t reads
no_fault bytes t (parse.TooDeep at) reads told why = why.1 t reads
no_fault bytes t parse.OutOfMemory reads told why = told refl

pub loads-or-wants-memory : LoadsOrWantsMemory
loads-or-wants-memory files TooManyFiles loads why told = absurd (let few = loads.few in omega (arith, why))
loads-or-wants-memory files (BadFileName i) loads why told = why.1.bad (named_at files i why.1.below loads.named)
loads-or-wants-memory files (Parse i fault) loads why told =
    let first = why.2 in
    let t = tree_at files i first.below loads.trees in
    no_fault (bytes_at i files) t.0 fault t.1 first.told first.why
loads-or-wants-memory files OutOfMemory loads why told = told refl
