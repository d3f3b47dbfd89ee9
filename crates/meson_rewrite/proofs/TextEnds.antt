-- How a run ends that has texts in place of files.
use Rattle.std.proofs.Common.{◌≡◌, ◌∙◌, ◌⊎◌, ◌≤◌, ◌+◌, ◌||◌, ℕ, Bool, true, List, Option, Some, None, Result, Ok, Err, inl, inr, refl, sym, ap, subst, arith}
use Rattle.std.specs.FinMap.{get}
use Rattle.std.specs.Prelude.{IfErr, IsTrue, OnOk}
use Rattle.meson_splice.specs.declared.file_set.File.{File}
use Rattle.meson_json.specs.TextsFile.{GivenText, HasNoTexts, HasTexts}
use Rattle.meson_command.specs.Asking.{only_asks, without_text}
use Rattle.meson_command.specs.declared.asked.Asked.{Asked}
use Rattle.meson_command.specs.declared.fault.UsageFault.{UsageFault}
use Rattle.meson_store.proofs.Leaving.{some-is}
use Rattle.meson_store.specs.Commit.{path_in}
use Rattle.meson_store.specs.Content.{Content}
use Rattle.meson_store.specs.Seen.{Seen, Untouched, seen}
use Rattle.meson_store.specs.StoreCalls.{one_more}
use Rattle.meson_store.specs.Texts.{texts_over}
use Rattle.meson_rewrite.proofs.EndedRuns.{asking-keeps, not-used, status-keeps, untouched-then}
use Rattle.meson_rewrite.proofs.FilesLeft.{run-leaves-files}
use Rattle.meson_rewrite.proofs.LogLeft.{run-leaves}
use Rattle.meson_rewrite.proofs.Reading.{nothing-read}
use Rattle.meson_rewrite.proofs.TextsAsked.{asks-without-text}
use Rattle.meson_rewrite.proofs.UnreadFiles.{memory-unread}
use Rattle.meson_rewrite.proofs.Untold.{run-untold, same-keeps}
use Rattle.meson_rewrite.specs.Lines.{status}
use Rattle.meson_rewrite.specs.Logs.{log_name}
use Rattle.meson_rewrite.specs.declared.opening.LogUse.{LogUse}
use Rattle.meson_rewrite.specs.Requests.{HasBytes, IsNoFile}
use Rattle.meson_rewrite.specs.Runs.{Ends, IsUnchanged, KeepsFiles, KeepsUntold, LeavesFiles, LeavesLog, OnlyAsks, RunEnds, TextsEnd, as_with_files, dir_of, has_no_file, has_no_memory, has_no_texts, log_use_of, memory_ran_out, with_texts, without_texts}
use Rattle.meson_rewrite.specs.StoreReads.{AskedMayRead, ReadsOver, RunMayRead}
use Rattle.meson_rewrite.specs.Stops.{WantsMemory, unread_by}
use Rattle.meson_rewrite.specs.Texts.{laid, placed, plain}
use Rattle.meson_rewrite.specs.declared.advice.Advice.{Advice}
use Rattle.meson_rewrite.specs.declared.said.Said.{Said}
use Rattle.meson_rewrite.specs.declared.advice.Advice.TheVariants.{Nothing}
use Rattle.meson_rewrite.specs.declared.stop.Stop.{Stop}
use Rattle.meson_rewrite.specs.declared.stop.Stop.TheVariants.{BadTexts, Usage}

-- ---- the store below the texts

same-seen : (c c' : Option Content) (f f' r r' : ℕ) → c ≡ c' → f ≡ f' → r ≡ r' → seen c f r ≡ seen c' f' r'
same-seen c c' f f' r r' content failures replaces = ap (λ x. seen x f r) content ∙ ap (λ x. seen c' x r) failures ∙ ap (λ x. seen c' f' x) replaces

-- a request that writes nothing fails over them as often as the store below does
module _ (a : Asked) (asks : IsTrue (only_asks a.action || a.flags.dry_run)) (end : Result Said Stop) (before after : Option Content) (failed failed' failed-below refused : ℕ)
    (low : failed-below ≤ failed') (high : failed' ≤ failed-below + refused) where
  pub over-below : Ends (Ok (without_text a)) (seen before failed 0) (seen after failed' refused) end → Ends (Ok (without_text a)) (seen before failed 0) (seen before failed-below 0) end
  over-below ends =
      let same = asking-keeps (Ok (without_text a)) (seen before failed 0) (seen after failed' refused) end ends (asks-without-text a asks) in
      let none : refused ≡ 0 = same.1 in
      let failures : failed' ≡ failed-below = omega (arith, low, high, none) in
      subst (λ s. Ends (Ok (without_text a)) (seen before failed 0) s end) (same-seen after before failed' failed-below refused 0 same.0 failures none) ends

-- ---- the file of the texts

module _ (a : Asked) (name : List ℕ) (before after : Seen) (u : Untouched before after) where
  pub texts-unread : (stop : Stop) → WantsMemory stop ⊎ IsNoFile before.content before.failures after.failures name stop → TextsEnd a name before after (Err stop)
  texts-unread stop (inl m) = has_no_memory stop u m
  texts-unread stop (inr none) = has_no_file stop u none

  pub texts-bad : (bytes : List ℕ) → HasBytes before.content name bytes → (stop : Stop) → WantsMemory stop ⊎ ((stop ≡ BadTexts Nothing) × HasNoTexts bytes) → TextsEnd a name before after (Err stop)
  texts-bad bytes has stop (inl m) = has_no_memory stop u m
  texts-bad bytes has stop (inr (is, none)) = subst (λ s. TextsEnd a name before after (Err s)) (sym is) (has_no_texts bytes u has none)

pub bad-texts-unread : (bytes : List ℕ) (stop : Stop) → WantsMemory stop ⊎ ((stop ≡ BadTexts Nothing) × HasNoTexts bytes) → unread_by stop ≡ None
bad-texts-unread bytes stop (inl m) = memory-unread stop m
bad-texts-unread bytes stop (inr (is, none)) = ap unread_by is

-- ---- nothing is written

pub texts-untouched : (a : Asked) (name : List ℕ) (before after : Seen) (end : Result Said Stop) → TextsEnd a name before after end → Untouched before after
texts-untouched a name before after _ (has_no_file stop u none) = u
texts-untouched a name before after _ (has_no_texts bytes u has none) = u
texts-untouched a name before after _ (as_with_files reached bytes texts end u v has lists ends) = untouched-then before reached after u v
texts-untouched a name before after _ (has_no_memory stop u m) = u

same-untold : (how : LogUse) (dir : Option (List ℕ)) (before after : Option Content) (end : Result Said Stop) → after ≡ before → IfErr end (KeepsUntold how dir before after)
same-untold how dir before after (Ok said) same = tt
same-untold how dir before after (Err stop) same = same-keeps how dir before after stop same

same-at : (path : List ℕ) (before after : Option Content) (old new : Content) → after ≡ before → before ≡ Some old → after ≡ Some new → get new path ≡ get old path
same-at path before after old new same is now = ap (λ c. get c path) (some-is (sym now ∙ same ∙ is))

module _ (asked : Result Asked UsageFault) (before after : Seen) (end : Result Said Stop) where
  pub run-asking-keeps : RunEnds asked before after end → OnlyAsks asked → IsUnchanged before after
  run-asking-keeps (without_texts _ none ends) only = asking-keeps asked before after end ends only
  run-asking-keeps (with_texts a name _ is named ends) only = let u = texts-untouched (plain a) name before after end ends in (u.kept, u.no_replace)

  pub run-status-keeps : (exit_code : Bool) → RunEnds asked before after end → (status exit_code end ≡ 1) ⊎ (status exit_code end ≡ 2)
      → KeepsFiles asked before after (status exit_code end)
  run-status-keeps exit_code (without_texts _ none ends) s = status-keeps exit_code asked before after end ends s
  run-status-keeps exit_code (with_texts a name _ is named ends) s = let u = texts-untouched (plain a) name before after end ends in (u.kept, inl u.no_replace)

  pub run-untold-all : RunEnds asked before after end → IfErr end (KeepsUntold (log_use_of asked) (dir_of asked) before.content after.content)
  run-untold-all (without_texts _ none ends) = run-untold asked before after end ends
  run-untold-all (with_texts a name _ is named ends) =
      same-untold (log_use_of asked) (dir_of asked) before.content after.content end (texts-untouched (plain a) name before after end ends).kept

  pub run-leaves-all : RunEnds asked before after end → LeavesLog asked before after
  run-leaves-all (without_texts _ none ends) ignored old new is now = run-leaves asked before after end ends ignored old new is now
  run-leaves-all (with_texts a name _ is_asked named ends) ignored old new is now =
      same-at (path_in (dir_of asked) log_name) before.content after.content old new (texts-untouched (plain a) name before after end ends).kept is now

  pub run-leaves-files-all : RunEnds asked before after end → status true end ≡ 0 → LeavesFiles (dir_of asked) before after
  run-leaves-files-all (without_texts _ none ends) is_0 old new is now path other =
      run-leaves-files asked before after end ends is_0 old new is now path other
  run-leaves-files-all (with_texts a name _ is_asked named ends) is_0 old new is now path other =
      same-at path before.content after.content old new (texts-untouched (plain a) name before after end ends).kept is now

-- ---- words that could not be read

module _ (asked : Result Asked UsageFault) (before after : Seen) (u : Untouched before after) where
  memory-ends : (stop : Stop) → WantsMemory stop → RunEnds asked before after (Err stop)
  memory-ends stop m = go asked refl
    where
      of-asked : (a : Asked) → asked ≡ Ok a → (texts : Option (List ℕ)) → a.texts ≡ texts → RunEnds asked before after (Err stop)
      of-asked a is None none = subst (λ r. RunEnds r before after (Err stop)) (sym is) (without_texts (Err stop) none (memory_ran_out stop u m))
      of-asked a is (Some name) named = with_texts a name (Err stop) is named (has_no_memory stop u m)

      go : (r : Result Asked UsageFault) → asked ≡ r → RunEnds asked before after (Err stop)
      go (Err fault) is = subst (λ r. RunEnds r before after (Err stop)) (sym is) (without_texts (Err stop) refl (memory_ran_out stop u m))
      go (Ok a) is = of-asked a is a.texts refl

  pub unasked-ends : (fault : UsageFault) (advice : Advice) → WantsMemory (Usage fault advice) ⊎ (asked ≡ Err fault) → RunEnds asked before after (Err (Usage fault advice))
  unasked-ends fault advice (inl m) = memory-ends (Usage fault advice) m
  unasked-ends fault advice (inr is) =
      subst (λ r. RunEnds r before after (Err (Usage fault advice))) (sym is)
      (without_texts (Err (Usage fault advice)) refl (not-used (Err fault) before after u fault advice (inr refl)))

asked-nothing-read : (a : Asked) (texts : Option (List ℕ)) (before : Option Content) (reads : ℕ) → AskedMayRead a texts before reads reads None
asked-nothing-read a None before reads = nothing-read (Ok a) before reads
asked-nothing-read a (Some name) before reads = inl (inl (refl, refl))

pub run-nothing-read : (asked : Result Asked UsageFault) (before : Option Content) (reads : ℕ) → RunMayRead asked before reads reads None
run-nothing-read (Err fault) before reads = (refl, refl)
run-nothing-read (Ok a) before reads = asked-nothing-read a a.texts before reads

-- ---- what is read after the file of the texts

pub ok-more : {T E P Q : Type 0} (r : Result T E) → (P → Q) → OnOk r P → OnOk r Q
ok-more (Ok x) f p = f p
ok-more (Err e) f p = tt

module _ (a : Asked) (name bytes : List ℕ) (texts : List GivenText) (files : List File) (lists : HasTexts bytes texts) (are : files ≡ placed a.dir texts) where
  pub with-files : (before reached after : Seen) (end : Result Said Stop) → Untouched before reached → Untouched reached after → HasBytes before.content name bytes
      → Ends (Ok a) (laid files reached) (laid files after) end → TextsEnd a name before after end
  with-files before reached after end u v has ends =
      as_with_files reached bytes texts end u v has lists (subst (λ fs. Ends (Ok a) (laid fs reached) (laid fs after) end) are ends)

  pub over-reads : (before reached : Option Content) (reads between reads' : ℕ) (P : Option Content → ℕ → ℕ → Type 0) → reached ≡ before → between ≡ one_more reads → HasBytes before name bytes
      → (n : ℕ) × (reads' ≤ between + n) × P (texts_over files reached) 0 n → ReadsOver a name before reads reads' P
  over-reads before reached reads between reads' P kept once has (n, most, so) = record {
    bytes = bytes;
    has = has;
    texts = texts;
    lists = lists;
    queries = n;
    at_most = subst (λ k. reads' ≤ k + n) once most;
    reads_so = subst (λ fs. P (texts_over fs before) 0 n) are (subst (λ held. P (texts_over files held) 0 n) kept so);
  }
