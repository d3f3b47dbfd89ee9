-- One file of a list, with those before and behind it.
use Rattle.std.proofs.Common.{◌≡◌, ◌≢◌, ℕ, zero, suc, ◌<◌, ◌≤◌, List, [], ◌∷◌, ◌++◌, length, take, drop, refl, sym, ap, ◌∙◌, subst, arith, append_assoc}
use Rattle.std.specs.Prelude.{Option, Some}
use Rattle.std.proofs.lemmas.List.{take_all, at_drop_all}
use Rattle.meson_splice.specs.declared.file_set.File.{File}
use Rattle.meson_splice.specs.Files.{bytes_at}
use Rattle.meson_syntax.specs.declared.fault.ParseFault.{ParseFault}
use Rattle.meson_syntax.specs.declared.fault.ParseFault.TheVariants as parse
use Rattle.meson_syntax.specs.Reads.{MayNotRead}
use Rattle.meson_calls.specs.declared.call.Reading.{Reading}
use Rattle.meson_calls.specs.Loading.{name_of_file}
use Rattle.meson_store.specs.Content.{Content}
use Rattle.meson_gathering.specs.Gathering.{Enters, file_of, files_entered, Ending, whole, unparsed, IsNextFile, Gathers, ended, enters, is_unparsed, is_unread, are_too_many}
use Rattle.meson_gathering.specs.inside.Gathered.{IsNotEntered, past_limit, at_name, LooksAt}

-- the file at a place
pub record Split (files : List File) (place : ℕ) : Type 0 where
  pub looked : List File
  pub f : File
  pub todo : List File
  pub whole : files ≡ looked ++ f ∷ todo
  pub taken : take place files ≡ looked
  pub dropped : drop place files ≡ f ∷ todo
  pub taken_more : (more : List File) → take (suc place) (files ++ more) ≡ looked ++ f ∷ []
  pub dropped_more : (more : List File) → drop (suc place) (files ++ more) ≡ todo ++ more
  pub is_file : file_of (name_of_file place files) (bytes_at place files) ≡ f

pub split_at : (files : List File) (place : ℕ) → place < length files → Split files place
split_at [] place within = absurd (omega arith)
split_at (f ∷ files) zero within = record {
  looked = [];
  f = f;
  todo = files;
  whole = refl;
  taken = refl;
  dropped = refl;
  taken_more = λ more. refl;
  dropped_more = λ more. refl;
  is_file = refl;
}
split_at (g ∷ files) (suc place) within =
    let below : place < length files = omega arith in
    let s = split_at files place below in
    record {
      looked = g ∷ s.looked;
      f = s.f;
      todo = s.todo;
      whole = ap (λ fs. g ∷ fs) s.whole;
      taken = ap (λ fs. g ∷ fs) s.taken;
      dropped = s.dropped;
      taken_more = λ more. ap (λ fs. g ∷ fs) (s.taken_more more);
      dropped_more = s.dropped_more;
      is_file = s.is_file;
    }

module _ (reading : Reading) (content : Content) (folder : Option (List ℕ)) (old : List File) (place : ℕ) (within : place < length old) where
  abbrev Around : Ending → Type 0
  Around end = Gathers reading content folder (take place old) (drop place old) end

  -- what is said of the file at the place, and of those before and behind it
  carried : (s : Split old place) (end : Ending) → Gathers reading content folder s.looked (s.f ∷ s.todo) end → Around end
  carried s end g = subst (λ fs. Gathers reading content folder fs (drop place old) end) (sym s.taken) (subst (λ fs. Gathers reading content folder s.looked fs end) (sym s.dropped) g)

  entered_here : (s : Split old place) (names : List (List ℕ)) → Enters reading (name_of_file place old) (bytes_at place old) names → Enters reading s.f.name s.f.bytes names
  entered_here s names h = subst (λ f. Enters reading f.name f.bytes names) s.is_file h

  pub looks : (new more : List File) → new ≡ old ++ more → LooksAt reading content folder place old new → (end : Ending) →
      Gathers reading content folder (take (suc place) new) (drop (suc place) new) end → Around end
  looks new more is_more l end g =
      let s = split_at old place within in
      let joined : new ≡ (s.looked ++ s.f ∷ []) ++ (s.todo ++ more) =
      is_more ∙ ap (λ fs. fs ++ more) s.whole ∙ append_assoc s.looked (s.f ∷ s.todo) more ∙ sym (append_assoc s.looked (s.f ∷ []) (s.todo ++ more)) in
      let rest : Gathers reading content folder (s.looked ++ s.f ∷ []) (s.todo ++ more) end =
      subst (λ fs. Gathers reading content folder fs (s.todo ++ more) end) (s.taken_more more)
      (subst (λ fs. Gathers reading content folder (take (suc place) (old ++ more)) fs end) (s.dropped_more more)
      (subst (λ fs. Gathers reading content folder (take (suc place) fs) (drop (suc place) fs) end) is_more g)) in
      let all : files_entered content folder l.names (s.looked ++ s.f ∷ s.todo) ≡ Some ((s.looked ++ s.f ∷ []) ++ (s.todo ++ more)) =
      ap (files_entered content folder l.names) (sym s.whole) ∙ l.are_entered ∙ ap (λ fs. Some fs) joined in
      carried s end (enters s.looked s.todo (s.todo ++ more) s.f l.names end (entered_here s l.names l.enters) all rest)

  pub not_entered : (names : List (List ℕ)) → Enters reading (name_of_file place old) (bytes_at place old) names → (end : Ending) → IsNotEntered content folder names old end → Around end
  not_entered names h _ (past_limit none) =
      let s = split_at old place within in
      carried s _ (are_too_many s.looked s.todo s.f names (entered_here s names h) (ap (files_entered content folder names) (sym s.whole) ∙ none))
  not_entered names h _ (at_name name next) =
      let s = split_at old place within in
      carried s _ (is_unread s.looked s.todo s.f names name (entered_here s names h) (subst (λ fs. IsNextFile content folder names fs name) s.whole next))

  pub not_parsed : (fault : ParseFault) → MayNotRead (bytes_at place old) fault → fault ≢ parse.OutOfMemory → Around (unparsed (name_of_file place old) (bytes_at place old) fault)
  not_parsed fault why told =
      let s = split_at old place within in
      let here : Around (unparsed s.f.name s.f.bytes fault) = carried s (unparsed s.f.name s.f.bytes fault) (is_unparsed s.looked s.todo s.f fault (subst (λ f. MayNotRead f.bytes fault) s.is_file why) told) in
      subst (λ f. Around (unparsed f.name f.bytes fault)) (sym s.is_file) here

-- all files were looked at
pub ended_all : (reading : Reading) (content : Content) (folder : Option (List ℕ)) (files : List File) (place : ℕ) → length files ≤ place → Gathers reading content folder (take place files) (drop place files) (whole files)
ended_all reading content folder files place past =
    subst (λ fs. Gathers reading content folder fs (drop place files) (whole files)) (sym (take_all place files past))
    (subst (λ fs. Gathers reading content folder files fs (whole files)) (sym (at_drop_all (λ fs. fs) files place past)) (ended files))
