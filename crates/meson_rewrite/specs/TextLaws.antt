-- What is promised of texts in place of files.
use Rattle.std.specs.Prelude.{◌≡◌, ◌≢◌, ◌<◌, ◌⊎◌, ℕ, List, length, slice_index_or, Option, Some, Result, Ok, Err}
use Rattle.std.specs.FinMap.{get}
use Rattle.meson_json.specs.TextsFile.{AreTexts, GivenText, HasTexts}
use Rattle.meson_command.specs.declared.asked.Asked.{Asked}
use Rattle.meson_store.specs.Commit.{path_in}
use Rattle.meson_store.specs.Content.{Content}
use Rattle.meson_store.specs.Seen.{Seen}
use Rattle.meson_store.specs.Texts.{with_texts}
use Rattle.meson_store.specs.declared.store_fault.StoreFault.TheVariants.{ReadFailed}
use Rattle.meson_rewrite.specs.Runs.{Ends, IsUnchanged, RunEnds}
use Rattle.meson_rewrite.specs.Stops.{WantsMemory}
use Rattle.meson_rewrite.specs.Texts.{laid, placed, plain}
use Rattle.meson_rewrite.specs.declared.said.Said.{Said}
use Rattle.meson_rewrite.specs.declared.stop.Stop.{Stop}
use Rattle.meson_rewrite.specs.declared.advice.Advice.TheVariants.{Nothing}
use Rattle.meson_rewrite.specs.declared.stop.Stop.TheVariants.{Store}

-- In a store with the texts each of them is the file of its name. Any other file is as it is without them.
abbrev pub TextsAreFiles : Type 0
TextsAreFiles = (dir : Option (List ℕ)) (texts : List GivenText) (held : Content) → AreTexts texts
    → ((i : ℕ) (d : GivenText) → i < length texts
    → get (with_texts (placed dir texts) held) (path_in dir (slice_index_or texts i d).0) ≡ Some (slice_index_or texts i d).1)
    × ((path : List ℕ) → ((i : ℕ) (d : GivenText) → i < length texts → path ≢ path_in dir (slice_index_or texts i d).0)
    → get (with_texts (placed dir texts) held) path ≡ get held path)

-- A run with texts ends as the same run without them does on a store with these files. Or the file of the texts is not read, or memory runs out. In any case
-- nothing is written.
abbrev pub AnswersAsFiles : Type 0
AnswersAsFiles = (a : Asked) (name bytes : List ℕ) (texts : List GivenText) (held : Content) (before after : Seen) (end : Result Said Stop)
    → a.texts ≡ Some name → before.content ≡ Some held → get held name ≡ Some bytes → HasTexts bytes texts → RunEnds (Ok a) before after end
    → IsUnchanged before after
    × (((reached : Seen) × (reached.content ≡ before.content)
    × Ends (Ok (plain a)) (laid (placed a.dir texts) reached) (laid (placed a.dir texts) after) end)
    ⊎ (end ≡ Err (Store (ReadFailed name) Nothing))
    ⊎ ((stop : Stop) × (end ≡ Err stop) × WantsMemory stop))
