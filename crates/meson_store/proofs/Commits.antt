-- What a commit does, from what its steps did.
use Rattle.std.proofs.Common.{◌≡◌, ℕ, suc, zero, ◌+◌, ◌<◌, Bool, true, false, not, cond, List, [], ◌∷◌, ◌++◌, Option, map, length, take, drop, refl, sym, ap, ◌∙◌, arith, add-one, append_assoc}
use Rattle.std.specs.Prelude.{bytes_eq, slice_index_or}
use Rattle.meson_splice.specs.Files.{bytes_at}
use Rattle.meson_splice.specs.declared.file_set.File.{File}
use Rattle.meson_store.specs.StoreCalls.{counted, one_more}
use Rattle.meson_store.specs.Content.{Content, content_with}
use Rattle.meson_store.specs.declared.committing.Planned.{Planned}
use Rattle.meson_store.specs.Commit.{Put, path_in, put_at, puts, put_all}
use Rattle.meson_store.specs.inside.Commit.{names_of}
use Rattle.meson_store.specs.inside.Planned.{put_of}

-- the bytes that a file gets at that path, and those that it held
abbrev put : List ℕ → List ℕ → List ℕ → List ℕ → Put
put path name was bytes = record { path = path; name = name; was = was; bytes = bytes }

-- one more file was put
put-next : (plan : List Planned) (i : ℕ) (file : Planned) → file ≡ slice_index_or plan i file → i < length plan → (c : Option Content) →
    put_all (map put_of (take (suc i) plan)) c ≡ content_with (put_all (map put_of (take i plan)) c) (put_of file).path (put_of file).bytes
put-next [] i file is h c = absurd (omega arith)
put-next (p ∷ plan) zero file is h c = ap (λ f. content_with c (put_of f).path (put_of f).bytes) (sym is)
put-next (p ∷ plan) (suc i) file is h c = put-next plan i file is (omega arith) (content_with c (put_of p).path (put_of p).bytes)

pub put-more : (plan : List Planned) (i : ℕ) (file : Planned) → file ≡ slice_index_or plan i file → i < length plan → (c : Option Content) →
    put_all (map put_of (take (i + 1) plan)) c ≡ content_with (put_all (map put_of (take i plan)) c) (put_of file).path (put_of file).bytes
put-more plan i file is h c = rw add-one (put-next plan i file is h c)

-- one more replace was counted
count-next : (plan : List Planned) (i : ℕ) → i < length plan → (n : ℕ) → counted (length (map put_of (take (suc i) plan))) n ≡ one_more (counted (length (map put_of (take i plan))) n)
count-next [] i h n = absurd (omega arith)
count-next (p ∷ plan) zero h n = refl
count-next (p ∷ plan) (suc i) h n = ap one_more (count-next plan i (omega arith) n)

pub count_one : (plan : List Planned) (i : ℕ) → i < length plan → (n middle new : ℕ) → middle ≡ counted (length (map put_of (take i plan))) n → new ≡ one_more middle →
    new ≡ counted (length (map put_of (take (i + 1) plan))) n
count_one plan i h n middle new is more = rw add-one (more ∙ ap one_more is ∙ sym (count-next plan i h n))

-- the plan, cut at a file
pub cut-at : (plan : List Planned) (i : ℕ) (file : Planned) → file ≡ slice_index_or plan i file → i < length plan →
    (map put_of plan ≡ map put_of (take i plan) ++ (put_of file ∷ map put_of (drop (suc i) plan))) × (length (map put_of (take i plan)) ≡ i)
cut-at [] i file is h = absurd (omega arith)
cut-at (p ∷ plan) zero file is h = (ap (λ f. put_of f ∷ map put_of plan) (sym is), refl)
cut-at (p ∷ plan) (suc i) file is h = let rest = cut-at plan i file is (omega arith) in (ap (λ ps. put_of p ∷ ps) rest.0, ap (λ n. suc n) rest.1)

-- one more file of the two sets was looked at
pub puts-more : (folder : Option (List ℕ)) (before after : List File) (i : ℕ) (d : File) → i < length before → i < length after →
    puts folder (drop i before) (drop i after) ≡ cond (bytes_eq (bytes_at i before) (bytes_at i after)) (puts folder (drop (suc i) before) (drop (suc i) after)) (put_at folder (record { name = (slice_index_or before i d).name; bytes = bytes_at i before }) (bytes_at i after) ∷ puts folder (drop (suc i) before) (drop (suc i) after))
puts-more folder [] after i d h k = absurd (omega arith)
puts-more folder (b ∷ before) [] i d h k = absurd (omega arith)
puts-more folder (b ∷ before) (a ∷ after) zero d h k = refl
puts-more folder (b ∷ before) (a ∷ after) (suc i) d h k = puts-more folder before after i d (omega arith) (omega arith)

pub not-true : (r b : Bool) → r ≡ not b → r ≡ true → b ≡ false
not-true r true e t = absurd (let no : ⊥ = cc in no)
not-true r false e t = refl

pub not-false : (r b : Bool) → r ≡ not b → r ≡ false → b ≡ true
not-false r true e f = refl
not-false r false e f = absurd (let no : ⊥ = cc in no)

put-is : (folder : Option (List ℕ)) (path name was bytes name' was' bytes' : List ℕ) → path ≡ path_in folder name → name ≡ name' → was ≡ was' → bytes ≡ bytes' →
    put path name was bytes ≡ put_at folder (record { name = name'; bytes = was' }) bytes'
put-is folder path name was bytes name' was' bytes' e f w h =
    ap (λ p. put p name was bytes) e ∙ ap (λ n. put (path_in folder n) n was bytes) f ∙ ap (λ o. put (path_in folder name') name' o bytes) w
    ∙ ap (λ b. put (path_in folder name') name' was' b) h

module _ (folder : Option (List ℕ)) (before after : List File) (i : ℕ) (was bytes : List ℕ) (differs : Bool) (plan all : List Put)
    (h : i < length before) (k : i < length after) (is_was : was ≡ bytes_at i before) (is_bytes : bytes ≡ bytes_at i after)
    (is_differs : differs ≡ not (bytes_eq was bytes)) (so_far : plan ++ puts folder (drop i before) (drop i after) ≡ all) where
  rest : List Put
  rest = puts folder (drop (suc i) before) (drop (suc i) after)

  test : differs ≡ not (bytes_eq (bytes_at i before) (bytes_at i after))
  test = is_differs ∙ ap (λ z. not (bytes_eq z bytes)) is_was ∙ ap (λ z. not (bytes_eq (bytes_at i before) z)) is_bytes

  -- the file differs, and is planned
  pub plan-more : (path name : List ℕ) (more : List Put) → differs ≡ true → path ≡ path_in folder name → ((d : File) → name ≡ (slice_index_or before i d).name) →
      more ≡ plan ++ (put path name was bytes ∷ []) → more ++ puts folder (drop (i + 1) before) (drop (i + 1) after) ≡ all
  unfolding rest
  plan-more path name more t is_path is_name is_more =
      let d : File = record { name = []; bytes = [] } in
      let file : Put = put_at folder (record { name = (slice_index_or before i d).name; bytes = bytes_at i before }) (bytes_at i after) in
      let step : puts folder (drop i before) (drop i after) ≡ put path name was bytes ∷ rest =
      puts-more folder before after i d h k
      ∙ ap (λ b. cond b rest (file ∷ rest)) (not-true differs _ test t)
      ∙ ap (λ p. p ∷ rest) (sym (put-is folder path name was bytes _ _ _ is_path (is_name d) is_was is_bytes)) in
      let done : more ++ rest ≡ all = ap (λ ps. ps ++ rest) is_more ∙ append_assoc plan (put path name was bytes ∷ []) rest ∙ ap (λ ps. plan ++ ps) (sym step) ∙ so_far in
      rw add-one done

  -- the file is the same
  pub plan-kept : (same : List Put) → differs ≡ false → same ≡ plan → same ++ puts folder (drop (i + 1) before) (drop (i + 1) after) ≡ all
  unfolding rest
  plan-kept same f is_same =
      let d : File = record { name = []; bytes = [] } in
      let file : Put = put_at folder (record { name = (slice_index_or before i d).name; bytes = bytes_at i before }) (bytes_at i after) in
      let step : puts folder (drop i before) (drop i after) ≡ rest = puts-more folder before after i d h k ∙ ap (λ b. cond b rest (file ∷ rest)) (not-false differs _ test f) in
      let done : same ++ rest ≡ all = ap (λ ps. ps ++ rest) is_same ∙ ap (λ ps. plan ++ ps) (sym step) ∙ so_far in
      rw add-one done

names_of-append : (xs ys : List Put) → names_of (xs ++ ys) ≡ names_of xs ++ names_of ys
names_of-append [] ys = refl
names_of-append (x ∷ xs) ys = ap (λ l. x.name ∷ l) (names_of-append xs ys)
