-- Objects of JSON hold no number with a fraction, and the files of a project are text.
use Rattle.std.proofs.Common.{◌≡◌, ◌<◌, ◌+◌, ◌++◌, ◌∙◌, ℕ, false, List, [], ◌∷◌, append_assoc, drop, get_or, length, map, refl, sym, ap, ap₂}
use Rattle.std.proofs.lemmas.List.{at_drop_more, map-append}
use Rattle.std.specs.List.{All}
use Rattle.std.specs.Str.{IsUtf8}
use Rattle.std.proofs.lemmas.List.Elements.{All-cons, All-nil}
use Rattle.serde_json.specs.Data.{Data, array}
use Rattle.serde_json.specs.View.{items_of, view}
use Rattle.serde_json.specs.Written.{has_float}
use Rattle.meson_syntax.specs.declared.tree.Parsed.{Parsed}
use Rattle.meson_splice.specs.declared.change.Change.{Change}
use Rattle.meson_splice.specs.declared.file_set.File.{File}
use Rattle.meson_splice.specs.Files.{bytes_at}
use Rattle.meson_splice.proofs.Sets.{bytes_at-get_or}
use Rattle.meson_splice.specs.declared.history.History as history
use Rattle.meson_calls.specs.declared.call.Reading.{Reading}
use Rattle.meson_calls.specs.Loading.{AreParsed, IsProject, Loaded}
use Rattle.meson_ranges.specs.declared.files.FileEdits.{FileEdits}
use Rattle.meson_script.specs.declared.session.Session.{Session}
use Rattle.meson_rewrite.specs.Listed.{listed_data}
use Rattle.meson_rewrite.specs.declared.request.Listing.{Listing}
use Rattle.meson_rewrite.specs.declared.request.Listing.TheVariants.{History, Holdings, Calls, Assignments, Sums}
use Rattle.meson_rewrite.specs.Objects.{change_data, changes_data, edit_data, file_edits_data, forgot_data, history_data, sum_data, sums_data}
use Rattle.meson_script.proofs.PlainListings.{all-plain, either}
use Rattle.meson_rewrite.proofs.Listings.{assignments-with-positions-plain, calls-with-positions-plain, project-with-positions-plain}

-- ---- numbers

file-plain : (f : FileEdits) → has_float (file_edits_data f) ≡ false
file-plain f = either (has_float (array (items_of (map edit_data f.edits.items)))) false (all-plain edit_data f.edits.items (λ e. refl)) refl

pub changes-plain : (changes : List FileEdits) → has_float (array (items_of (map file_edits_data changes))) ≡ false
changes-plain changes = all-plain file_edits_data changes file-plain

pub forgot-plain : (which : Data) → has_float which ≡ false → has_float (forgot_data which) ≡ false
forgot-plain which p = either (has_float which) false p refl

past-plain : (changes : List Change) → has_float (changes_data changes) ≡ false
past-plain changes = all-plain change_data changes (λ c. refl)

pub history-plain : (h : history.History) → has_float (history_data h) ≡ false
history-plain h = rw (past-plain _, past-plain _) refl

pub sums-plain : (files : List File) → has_float (sums_data files) ≡ false
sums-plain files = rw (all-plain sum_data files (λ f. refl)) refl

pub listed-plain : (reading : Reading) (listing : Listing) (session : Session) → has_float (listed_data reading listing session) ≡ false
listed-plain reading History session = history-plain session.history
listed-plain reading (Holdings json) session = project-with-positions-plain reading session.project
listed-plain reading (Calls function json) session = calls-with-positions-plain session.project function
listed-plain reading (Assignments json) session = assignments-with-positions-plain session.project
listed-plain reading Sums session = sums-plain session.project.files

-- ---- text

abbrev pub IsText : File → Type 0
IsText f = IsUtf8 f.bytes

all-text : (files : List File) (parsed : List Parsed) → AreParsed files parsed → All IsText files
all-text [] [] p = All-nil IsText
all-text [] (t ∷ parsed) p = absurd p
all-text (f ∷ files) [] p = absurd p
all-text (f ∷ files) (t ∷ parsed) p = All-cons IsText f files p.0.reads.source.utf8 (all-text files parsed p.1)

pub project-text : (l : Loaded) → IsProject l → All IsText l.files
project-text l is = all-text l.files l.parsed is.parsed

-- ---- digests, one after another

module _ (files : List File) (i : ℕ) (name bytes : List ℕ) (within : i < length files) (named : (d : File) → name ≡ (get_or files i d).name)
    (holds : bytes ≡ bytes_at i files) where
  abbrev this : File
  this = record { name = name; bytes = bytes }

  -- the file of that number
  is-this : get_or files i this ≡ this
  is-this = ap₂ (λ n b. let f : File = record { name = n; bytes = b } in f) (sym (named this)) (bytes_at-get_or files i this within ∙ sym holds)

  pub one-sum : {V : Type 0} (look : V → Data) (before after : List V) (v : V) (whole : List Data) → after ≡ before ++ v ∷ [] → look v ≡ sum_data this
      → map look before ++ map sum_data (drop i files) ≡ whole → map look after ++ map sum_data (drop (i + 1) files) ≡ whole
  one-sum look before after v whole pushed is so_far =
      let more = map sum_data (drop (i + 1) files) in
      ap (λ a. a ++ more) (ap (map look) pushed ∙ map-append look before (v ∷ []))
      ∙ append_assoc (map look before) (look v ∷ []) more
      ∙ ap (λ d. map look before ++ d ∷ more) (is ∙ ap sum_data (sym is-this))
      ∙ ap (λ m. map look before ++ m) (sym (at_drop_more (map sum_data) files i this within))
      ∙ so_far
