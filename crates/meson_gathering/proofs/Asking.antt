-- What a store is asked for, by what one step answers.
use Rattle.std.proofs.Common.{◌≡◌, ◌∙◌, ℕ, List, inl, inr, refl, sym, ap, subst}
use Rattle.std.specs.Prelude.{Option, Some, None, IfSome, is_some, true, false, Result, Ok, Err, OnOk}
use Rattle.meson_splice.specs.declared.file_set.File.{File}
use Rattle.meson_splice.specs.Files.{position_of_file}
use Rattle.meson_store.specs.StoreCalls.{one_more}
use Rattle.meson_store.specs.Content.{Content}
use Rattle.meson_gathering.specs.Gathering.{Told, file_of, held_bytes, with_more}
use Rattle.meson_gathering.specs.inside.Gathered.{IsNotAdded, StopsLooking}
use Rattle.meson_gathering.specs.ReadCounts.{Asks, EntersOne, MayAsk, MayAskIfNew, is_read, is_there, unread_file, unread_name}
use Rattle.meson_gathering.specs.declared.fault.GatherFault.{GatherFault}
use Rattle.meson_gathering.specs.declared.fault.GatherFault.TheVariants.{Parse, TooManyFiles, Store}

-- ---- faults that tell of no file that could not be read

pub asks_and_reads : (name : List ℕ) (reads reads' : ℕ) (unread : Option (List ℕ)) → reads' ≡ one_more reads → unread ≡ None → Asks name reads reads' unread
asks_and_reads name reads reads' unread once none = (once, subst (λ u. IfSome u (λ n. n ≡ name)) (sym none) tt)

pub unadded_reads : (files : List File) (f : File) (stop : GatherFault) → IsNotAdded files f stop → unread_file stop ≡ None
unadded_reads files f (Parse name bytes fault) h = refl
unadded_reads files f TooManyFiles h = refl
unadded_reads files f (Store fault) h = ap unread_name h

pub looking_reads : (name bytes : List ℕ) (stop : GatherFault) → StopsLooking name bytes stop → unread_file stop ≡ None
looking_reads name bytes (Parse n b fault) h = refl
looking_reads name bytes TooManyFiles h = refl
looking_reads name bytes (Store fault) h = ap unread_name h

-- ---- a name that no file has

pub is_new : (files : List File) (name : List ℕ) (o : Option ℕ) → position_of_file name files ≡ o → is_some o ≡ false → position_of_file name files ≡ None
is_new files name (Some i) is none = absurd (let no : ⊥ = cc in no)
is_new files name None is none = is

pub may_ask_new : (name : List ℕ) (files : List File) (reads reads' : ℕ) (unread : Option (List ℕ)) → position_of_file name files ≡ None
    → MayAsk name reads reads' unread → MayAskIfNew name files reads reads' unread
may_ask_new name files reads reads' unread new (inl none) = inl none
may_ask_new name files reads reads' unread new (inr asks) = inr (new, asks)

module _ (before : Option Content) (folder : Option (List ℕ)) (name : List ℕ) (files : List File) (reads reads' : ℕ) where
  -- its file is there
  pub asks_nothing : (o : Option ℕ) → position_of_file name files ≡ o → is_some o ≡ true → EntersOne before folder name files reads files reads
  asks_nothing o is some = is_there (ap is_some is ∙ some)

  module _ (absent : position_of_file name files ≡ None) (once : reads' ≡ one_more reads) where
    -- the store has none
    pub asks_for_none : Told before (λ content. None ≡ held_bytes content folder name) → EntersOne before folder name files reads files reads'
    asks_for_none told = subst (EntersOne before folder name files reads files) (sym once) (is_read None files absent told refl)

    -- its file is put behind the others
    pub asks_for_file : (bytes : List ℕ) (new : List File) → Told before (λ content. Some bytes ≡ held_bytes content folder name) → {T E : Type 0} (r : Result T E)
        → OnOk r (with_more files (file_of name bytes) ≡ Some new) → OnOk r (EntersOne before folder name files reads new reads')
    asks_for_file bytes new told (Ok x) more = subst (EntersOne before folder name files reads new) (sym once) (is_read (Some bytes) new absent told more)
    asks_for_file bytes new told (Err e) more = more
