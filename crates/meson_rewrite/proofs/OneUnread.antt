-- How often a store was asked tells which file could not be read.
use Rattle.std.proofs.Common.{◌≡◌, ◌≤◌, ◌<◌, ◌+◌, ◌-◌, ◌^◌, ◌∙◌, ℕ, List, [], ◌∷◌, ◌++◌, inl, inr, refl, sym, ap, subst, arith, length}
use Rattle.std.specs.Prelude.{Option, Some, None, Result, Ok, Err}
use Rattle.std.proofs.lemmas.Bool.{cases_order}
use Rattle.meson_splice.specs.declared.file_set.File.{File}
use Rattle.meson_splice.specs.Files.{bytes_at, position_of_file}
use Rattle.meson_calls.specs.Folders.{build_file}
use Rattle.meson_calls.specs.Loading.{name_of_file}
use Rattle.meson_calls.specs.declared.call.Reading.{Reading}
use Rattle.meson_command.specs.declared.asked.Action.{Action}
use Rattle.meson_command.specs.declared.asked.Action.TheVariants as action
use Rattle.meson_command.specs.declared.asked.Asked.{Asked}
use Rattle.meson_command.specs.declared.fault.UsageFault.{UsageFault}
use Rattle.meson_rewrite.specs.Logs.{log_use}
use Rattle.meson_rewrite.specs.StoreReads.{AsksNamed, MayAskLog, MayRead, ReadsAtMost, file_read}
use Rattle.meson_rewrite.specs.declared.opening.LogUse.{LogUse}
use Rattle.meson_rewrite.specs.declared.opening.LogUse.TheVariants.{Kept, Ignored}
use Rattle.meson_store.specs.StoreCalls.{one_more}
use Rattle.meson_store.specs.Content.{Content}
use Rattle.meson_gathering.specs.Gathering.{Enters, file_of}
use Rattle.meson_gathering.specs.ReadCounts.{Looks, MayAskIfNew, ReadsFiles, StopsFor, StopsReading, next_file, root_read, stops_at_file, stops_at_root}
use Rattle.meson_rewrite.proofs.EnteredAsks.{At, cuts, each, each-grows, each-is, more, names-same, passed, some-same}

module _ (reading : Reading) (held : Content) (folder : Option (List ℕ)) where
  module _ (reads : ℕ) where
    -- ---- one file after another

    abbrev Looked : List File → ℕ → ℕ → Type 0
    Looked = Looks reading (Some held) folder reads

    looked-same : (files files' : List File) (p p' n n' : ℕ) → p ≡ p' → Looked files p n → Looked files' p' n' → ◌≡◌ {A = At} (files, n) (files', n')
    looked-same _ _ _ _ _ _ e (root_read bytes told) (root_read bytes' told') =
        let is : Some bytes ≡ Some bytes' = sym (told held refl) ∙ told' held refl in
        let same : bytes ≡ bytes' = cc in
        ap (λ b. (file_of build_file b ∷ [], one_more reads)) same
    looked-same _ _ _ _ _ _ e (root_read bytes told) (next_file files new place n m looks within for) = absurd (omega (arith, e))
    looked-same _ _ _ _ _ _ e (next_file files new place n m looks within for) (root_read bytes told) = absurd (omega (arith, e))
    looked-same _ _ _ _ _ _ e (next_file files new place n m looks within (names, enters, all)) (next_file files' new' place' n' m' looks' within' (names', enters', all')) =
        let at : place ≡ place' = omega (arith, e) in
        let same = looked-same files files' place place' n n' at looks looks' in
        let is_names : names ≡ names' =
        names-same reading (name_of_file place' files') (bytes_at place' files') names names' (subst (λ fs. Enters reading (name_of_file place' fs) (bytes_at place' fs) names) (ap (λ a. a.0) same) (subst (λ q. Enters reading (name_of_file q files) (bytes_at q files) names) at enters)) enters' in
        some-same held folder (new, m) (new', m') (sym (each-is held folder files n names new m all) ∙ ap (each held folder names) same ∙ ap (λ ns. each held folder ns (files', n')) is_names ∙ each-is held folder files' n' names' new' m' all')

    looked-grows : (files : List File) (p n : ℕ) → Looked files p n → n < 2 ^ 64 - 1 → reads + 1 ≤ n
    looked-grows _ _ _ (root_read bytes told) low = let is = more reads low in omega (arith, is)
    looked-grows _ _ _ (next_file files new place n m looks within (names, enters, all)) low =
        let grows : n ≤ m = each-grows held folder names (files, n) (new, m) (each-is held folder files n names new m all) low in
        let below : n < 2 ^ 64 - 1 = omega (arith, grows, low) in
        let rest = looked-grows files place n looks below in
        omega (arith, grows, rest)

    -- the names that the file at a place enters were all entered, where later ones were looked at
    record Passes (files : List File) (p n n' : ℕ) : Type 0 where
      names : List (List ℕ)
      enters : Enters reading (name_of_file p files) (bytes_at p files) names
      after : At
      all : each held folder names (files, n) ≡ Some after
      before : after.1 ≤ n'
      inside : p < length files

    passes : (files files' : List File) (p p' n n' : ℕ) → Looked files p n → Looked files' p' n' → p < p' → n' < 2 ^ 64 - 1 → Passes files p n n'
    passes files _ p _ n _ l (root_read bytes told) less low = absurd (omega (arith, less))
    passes files _ p _ n _ l (next_file files' new place n' m looks within (names, enters, all)) less low =
        elim (cases_order p place) [
          | inl e ↦
              let same = looked-same files' files place p n' n (sym e) looks l in
              let all_names = ap (each held folder names) (sym same) ∙ each-is held folder files' n' names new m all in
              let here = subst (λ fs. Enters reading (name_of_file p fs) (bytes_at p fs) names) (ap (λ a. a.0) same) (subst (λ q. Enters reading (name_of_file q files') (bytes_at q files') names) (sym e) enters) in
              let le : m ≤ m = omega arith in
              let here_too : p < length files = subst (λ a. p < length a.0) same (subst (λ q. q < length files') (sym e) within) in
              record { names = names; enters = here; after = (new, m); all = all_names; before = le; inside = here_too }
          | inr (inl before) ↦
              let grows : n' ≤ m = each-grows held folder names (files', n') (new, m) (each-is held folder files' n' names new m all) low in
              let below : n' < 2 ^ 64 - 1 = omega (arith, grows, low) in
              let h = passes files files' p place n n' l looks before below in
              let le : h.after.1 ≤ m = let x = h.before in omega (arith, x, grows) in
              record { names = h.names; enters = h.enters; after = h.after; all = h.all; before = le; inside = h.inside }
          | inr (inr behind) ↦ absurd (omega (arith, less, behind))
        ]

    -- ---- where it stops

    record Stop (files : List File) (p n reads' : ℕ) (name : List ℕ) : Type 0 where
      names : List (List ℕ)
      enters : Enters reading (name_of_file p files) (bytes_at p files) names
      done : List (List ℕ)
      rest : List (List ℕ)
      cut : names ≡ done ++ name ∷ rest
      there : At
      so_far : each held folder done (files, n) ≡ Some there
      absent : position_of_file name there.0 ≡ None
      once : reads' ≡ there.1 + 1
      inside : p < length files

    stop-of : (files : List File) (p n reads' : ℕ) (name : List ℕ) → reads' < 2 ^ 64 - 1 → StopsFor reading (Some held) folder files p n reads' (Some name) → Stop files p n reads' name
    stop-of files p n reads' name low (inl (same, none)) = absurd (let no : ⊥ = cc in no)
    stop-of files p n reads' name low (inr (within, names, enters, s)) = go s.last
      where
        go : MayAskIfNew s.name s.there s.so_far reads' (Some name) → Stop files p n reads' name
        go (inl (same, none)) = absurd (let no : ⊥ = cc in no)
        go (inr (absent, (once, is))) = record {
          names = names;
          enters = enters;
          done = s.done;
          rest = s.rest;
          cut = s.all ∙ ap (λ x. s.done ++ x ∷ s.rest) (sym is);
          there = (s.there, s.so_far);
          so_far = each-is held folder files n s.done s.there s.so_far s.entered;
          absent = subst (λ x. position_of_file x s.there ≡ None) (sym is) absent;
          once = once ∙ more s.so_far (subst (λ k. k < 2 ^ 64 - 1) once low);
          inside = within;
        }

    module _ (reads' : ℕ) (low : reads' < 2 ^ 64 - 1) where
      stop-behind : (files : List File) (p n : ℕ) (name : List ℕ) → Stop files p n reads' name → n + 1 ≤ reads'
      stop-behind files p n name s =
          let is = s.once in
          let below : s.there.1 < 2 ^ 64 - 1 = omega (arith, is, low) in
          let grows : n ≤ s.there.1 = each-grows held folder s.done (files, n) s.there s.so_far below in
          omega (arith, is, grows)

      -- where later files are looked at, the store was read as often before
      gone-by : (files files' : List File) (p p' n n' : ℕ) (name : List ℕ) → Looked files p n → Looked files' p' n' → p < p' → n' < 2 ^ 64 - 1 → Stop files p n reads' name → reads' ≤ n'
      gone-by files files' p p' n n' name l l' less below s =
          let h = passes files files' p p' n n' l l' less below in
          let cut : h.names ≡ s.done ++ name ∷ s.rest = names-same reading (name_of_file p files) (bytes_at p files) h.names s.names h.enters s.enters ∙ s.cut in
          let before = h.before in
          let end : h.after.1 < 2 ^ 64 - 1 = omega (arith, before, below) in
          let past : s.there.1 + 1 ≤ h.after.1 = passed held folder s.done s.rest name (files, n) h.after s.there (ap (λ ns. each held folder ns (files, n)) (sym cut) ∙ h.all) s.so_far s.absent end in
          let is = s.once in
          omega (arith, past, before, is)

      -- it stops at one file only
      stops-once : (files files' : List File) (p p' n n' : ℕ) (name other : List ℕ) → Looked files p n → Looked files' p' n' → p < p' → Stop files p n reads' name → Stop files' p' n' reads' other → ⊥
      stops-once files files' p p' n n' name other l l' less s s' =
          let last : n' + 1 ≤ reads' = stop-behind files' p' n' other s' in
          let below : n' < 2 ^ 64 - 1 = omega (arith, last, low) in
          let past = gone-by files files' p p' n n' name l l' less below s in
          omega (arith, past, last)

      -- and at one name there
      stops-at : (files : List File) (p n : ℕ) (name other : List ℕ) → Stop files p n reads' name → Stop files p n reads' other → name ≡ other
      stops-at files p n name other s t =
          let both = sym s.cut ∙ names-same reading (name_of_file p files) (bytes_at p files) s.names t.names s.enters t.enters ∙ t.cut in
          let is = s.once in
          let is' = t.once in
          elim (cuts s.done t.done s.rest t.rest name other both) [
            | inl same ↦ same
            | inr (inl (r, d)) ↦
                let below : t.there.1 < 2 ^ 64 - 1 = omega (arith, is', low) in
                let past : s.there.1 + 1 ≤ t.there.1 = passed held folder s.done r name (files, n) t.there s.there (ap (λ ns. each held folder ns (files, n)) (sym d) ∙ t.so_far) s.so_far s.absent below in
                absurd (omega (arith, past, is, is'))
            | inr (inr (r, d)) ↦
                let below : s.there.1 < 2 ^ 64 - 1 = omega (arith, is, low) in
                let past : t.there.1 + 1 ≤ s.there.1 = passed held folder t.done r other (files, n) s.there t.there (ap (λ ns. each held folder ns (files, n)) (sym d) ∙ s.so_far) t.so_far t.absent below in
                absurd (omega (arith, past, is, is'))
          ]

      stops-same : (files files' : List File) (p p' n n' : ℕ) (name other : List ℕ) → Looked files p n → Looked files' p' n' → Stop files p n reads' name → Stop files' p' n' reads' other → name ≡ other
      stops-same files files' p p' n n' name other l l' s t =
          elim (cases_order p p') [
            | inl e ↦
                let same = looked-same files files' p p' n n' e l l' in
                stops-at files' p' n' name other (subst (λ a. Stop a.0 p' a.1 reads' name) same (subst (λ q. Stop files q n reads' name) e s)) t
            | inr (inl less) ↦ absurd (stops-once files files' p p' n n' name other l l' less s t)
            | inr (inr less) ↦ absurd (stops-once files' files p' p n' n other name l' l less t s)
          ]

      -- it stops at the root file or behind it
      root-alone : (files : List File) (p n : ℕ) (name : List ℕ) → Looked files p n → Stop files p n reads' name → reads' ≡ one_more reads → ⊥
      root-alone files p n name l s once =
          let last = stop-behind files p n name s in
          let below : n < 2 ^ 64 - 1 = omega (arith, last, low) in
          let first = looked-grows files p n l below in
          let is = more reads (subst (λ k. k < 2 ^ 64 - 1) once low) in
          omega (arith, last, first, is, once)

      -- it stops before all files are read
      stops-before : (files all : List File) (p q n m : ℕ) (name : List ℕ) → Looked files p n → Stop files p n reads' name → Looked all q m → length all ≤ q → reads' ≡ one_more m → ⊥
      stops-before files all p q n m name l s k past once =
          let is = more m (subst (λ c. c < 2 ^ 64 - 1) once low) in
          let below : m < 2 ^ 64 - 1 = omega (arith, is, once, low) in
          elim (cases_order p q) [
            | inl e ↦
                let same = looked-same all files q p m n (sym e) k l in
                let past : length files ≤ p = subst (λ x. length files ≤ x) (sym e) (subst (λ a. length a.0 ≤ q) same past) in
                let inside = s.inside in
                omega (arith, inside, past)
            | inr (inl less) ↦
                let behind = gone-by files all p q n m name l k less below s in
                omega (arith, behind, once, is)
            | inr (inr less) ↦
                let last = stop-behind files p n name s in
                let low_n : n < 2 ^ 64 - 1 = omega (arith, last, low) in
                let h = passes all files q p m n k l less low_n in
                let inside = h.inside in
                omega (arith, inside, past)
          ]

      -- ---- by all that is said of the reads

      abbrev Stopped : List ℕ → Type 0
      Stopped name = StopsReading reading (Some held) folder reads reads' (Some name)

      one-stopped : (name other : List ℕ) → Stopped name → Stopped other → name ≡ other
      one-stopped name other (stops_at_root (inl (same, none))) b = absurd (let no : ⊥ = cc in no)
      one-stopped name other a (stops_at_root (inl (same, none))) = absurd (let no : ⊥ = cc in no)
      one-stopped name other (stops_at_root (inr (once, is))) (stops_at_root (inr (once', is'))) = is ∙ sym is'
      one-stopped name other (stops_at_root (inr (once, is))) (stops_at_file files p n l s) = absurd (root-alone files p n other l (stop-of files p n reads' other low s) once)
      one-stopped name other (stops_at_file files p n l s) (stops_at_root (inr (once, is))) = absurd (root-alone files p n name l (stop-of files p n reads' name low s) once)
      one-stopped name other (stops_at_file files p n l s) (stops_at_file files' p' n' l' s') =
          stops-same files files' p p' n n' name other l l' (stop-of files p n reads' name low s) (stop-of files' p' n' reads' other low s')

      stopped-behind : (name : List ℕ) → Stopped name → reads + 1 ≤ reads'
      stopped-behind name (stops_at_root (inl (same, none))) = absurd (let no : ⊥ = cc in no)
      stopped-behind name (stops_at_root (inr (once, is))) =
          let one = more reads (subst (λ k. k < 2 ^ 64 - 1) once low) in
          omega (arith, one, once)
      stopped-behind name (stops_at_file files p n l s) =
          let last = stop-behind files p n name (stop-of files p n reads' name low s) in
          let below : n < 2 ^ 64 - 1 = omega (arith, last, low) in
          let first = looked-grows files p n l below in
          omega (arith, last, first)

      -- the log is read behind all files
      log-behind : (all : List File) (m : ℕ) → ReadsFiles reading (Some held) folder reads all m → reads' ≡ one_more m → reads + 2 ≤ reads'
      log-behind all m r once =
          let is = more m (subst (λ c. c < 2 ^ 64 - 1) once low) in
          let below : m < 2 ^ 64 - 1 = omega (arith, is, once, low) in
          let first = looked-grows all r.place m r.looks below in
          omega (arith, first, is, once)

      not-both : (name : List ℕ) (all : List File) (m : ℕ) → Stopped name → ReadsFiles reading (Some held) folder reads all m → reads' ≡ one_more m → ⊥
      not-both name all m (stops_at_root (inl (same, none))) r once = let no : ⊥ = cc in no
      not-both name all m (stops_at_root (inr (first, is))) r once =
          let one = more reads (subst (λ k. k < 2 ^ 64 - 1) first low) in
          let behind = log-behind all m r once in
          omega (arith, behind, one, first)
      not-both name all m (stops_at_file files p n l s) r once = stops-before files all p r.place n m name l (stop-of files p n reads' name low s) r.looks r.past once

      abbrev Read : LogUse → List ℕ → Type 0
      Read how name = ReadsAtMost how reading (Some held) folder reads reads' (Some name)

      -- where the log is ignored, a file that could not be read is none of those that were
      no-log : (name : List ℕ) (n : ℕ) → MayAskLog Ignored n reads' (Some name) → ⊥
      no-log name n (same, none) = let no : ⊥ = cc in no

      one-read : (how : LogUse) (name other : List ℕ) → Read how name → Read how other → name ≡ other
      one-read how name other (inl a) (inl b) = one-stopped name other a b
      one-read Ignored name other (inl a) (inr (files, n, all, last)) = absurd (no-log other n last)
      one-read Ignored name other (inr (files, n, all, last)) b = absurd (no-log name n last)
      one-read Kept name other (inl a) (inr (files, n, all, inl (same, none))) = absurd (let no : ⊥ = cc in no)
      one-read Kept name other (inl a) (inr (files, n, all, inr (once, is))) = absurd (not-both name files n a all once)
      one-read Kept name other (inr (files, n, all, inl (same, none))) b = absurd (let no : ⊥ = cc in no)
      one-read Kept name other (inr (files, n, all, inr (once, is))) (inl b) = absurd (not-both other files n b all once)
      one-read Kept name other (inr (files, n, all, inr (once, is))) (inr (files', n', all', inl (same, none))) = absurd (let no : ⊥ = cc in no)
      one-read Kept name other (inr (files, n, all, inr (once, is))) (inr (files', n', all', inr (once', is'))) = is ∙ sym is'

      read-behind : (how : LogUse) (name : List ℕ) → Read how name → reads + 1 ≤ reads'
      read-behind how name (inl a) = stopped-behind name a
      read-behind Ignored name (inr (files, n, all, last)) = absurd (no-log name n last)
      read-behind Kept name (inr (files, n, all, inl (same, none))) = absurd (let no : ⊥ = cc in no)
      read-behind Kept name (inr (files, n, all, inr (once, is))) = let behind = log-behind files n all once in omega (arith, behind)

-- ---- a run

named-count : (a : Action) (reads reads' : ℕ) (name : List ℕ) → AsksNamed a reads reads' (Some name) → reads' ≡ file_read a reads
named-count (action.ScriptFile n unknown) reads reads' name h = h.0
named-count (action.UndoChecked count n) reads reads' name h = h.0
named-count _ reads reads' name h = absurd h

named-one : (a : Action) (reads reads' : ℕ) (name other : List ℕ) → AsksNamed a reads reads' (Some name) → AsksNamed a reads reads' (Some other) → name ≡ other
named-one (action.ScriptFile n unknown) reads reads' name other h k = h.1 ∙ sym k.1
named-one (action.UndoChecked count n) reads reads' name other h k = h.1 ∙ sym k.1
named-one _ reads reads' name other h k = absurd h

not-named : (a : Asked) (held : Content) (reads reads' : ℕ) (name other : List ℕ) → reads' < 2 ^ 64 - 1 → AsksNamed a.action reads reads' (Some name)
    → ReadsAtMost (log_use a.flags.no_log) a.flags.reading (Some held) a.dir (file_read a.action reads) reads' (Some other) → ⊥
not-named a held reads reads' name other low h k =
    let is = named-count a.action reads reads' name h in
    let behind = read-behind a.flags.reading held a.dir (file_read a.action reads) reads' low (log_use a.flags.no_log) other k in
    omega (arith, behind, is)

pub one-unread : (asked : Result Asked UsageFault) (held : Content) (reads reads' : ℕ) (name other : List ℕ) → reads' < 2 ^ 64 - 1
    → MayRead asked (Some held) reads reads' (Some name) → MayRead asked (Some held) reads reads' (Some other) → name ≡ other
one-unread (Err fault) held reads reads' name other low (same, none) b = absurd (let no : ⊥ = cc in no)
one-unread (Ok a) held reads reads' name other low (inl (same, none)) b = absurd (let no : ⊥ = cc in no)
one-unread (Ok a) held reads reads' name other low h (inl (same, none)) = absurd (let no : ⊥ = cc in no)
one-unread (Ok a) held reads reads' name other low (inr (inl h)) (inr (inl k)) = named-one a.action reads reads' name other h k
one-unread (Ok a) held reads reads' name other low (inr (inl h)) (inr (inr (asks, k))) = absurd (not-named a held reads reads' name other low h k)
one-unread (Ok a) held reads reads' name other low (inr (inr (asks, h))) (inr (inl k)) = absurd (not-named a held reads reads' other name low k h)
one-unread (Ok a) held reads reads' name other low (inr (inr (asks, h))) (inr (inr (asks', k))) =
    one-read a.flags.reading held a.dir (file_read a.action reads) reads' low (log_use a.flags.no_log) name other h k
