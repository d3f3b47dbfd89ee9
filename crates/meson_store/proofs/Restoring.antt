-- Where all old bytes are put back, a store holds what it held.
use Rattle.std.proofs.Common.{◌≡◌, ℕ, ◌⊎◌, List, [], ◌∷◌, ◌++◌, Option, Some, None, inl, inr, refl, sym, subst, ap, ◌∙◌, Bool, true, false, cond, map, reverse, length, ◌+◌, ◌≤◌, arith, length-append}
use Rattle.std.proofs.lemmas.List.{reverse-append}
use Rattle.std.specs.Ordering.{nat_cmp, eq_by_cmp, is_eq}
use Rattle.std.specs.declared.cmp.Ordering.{Ordering}
use Rattle.std.specs.declared.cmp.Ordering.TheVariants.{Less, Equal, Greater}
use Rattle.std.specs.Cmp.{eq_by_cmp_equiv}
use Rattle.std.specs.Cmp.Lexicographic.{slice_cmp, nat_list_cmp_total}
use Rattle.std.specs.FinMap.{get, insert, get-insert, same_map, slice_cmp-IsAntisymmetric, nat_cmp-IsAntisymmetric}
use Rattle.std.specs.Prelude.{bytes_eq}
use Rattle.meson_splice.specs.declared.file_set.File.{File}
use Rattle.meson_store.specs.StoreCalls.{Leaves}
use Rattle.meson_store.specs.Commit.{TakenBack, GoBack, Put, all_back, fault_of, is_back, is_lost, put_all, put_at, puts, to_go_back}
use Rattle.meson_store.specs.Content.{Content, content_with}
use Rattle.meson_store.specs.Seen.{Seen}
use Rattle.meson_store.specs.declared.store.StoreError.{StoreError}
use Rattle.meson_store.specs.declared.store.StoreError.TheVariants as error
use Rattle.meson_store.specs.declared.store_fault.StoreFault.TheVariants.{OutOfMemory}

-- ---- lists

abbrev pub Each : {A : Type 0} → (A → Type 0) → List A → Type 0
Each P [] = Unit {0}
Each P (x ∷ xs) = P x × Each P xs

pub each-map : {A : Type 0} (P Q : A → Type 0) → ((x : A) → P x → Q x) → (xs : List A) → Each P xs → Each Q xs
each-map P Q f [] h = tt
each-map P Q f (x ∷ xs) h = (f x h.0, each-map P Q f xs h.1)

pub each-append : {A : Type 0} (P : A → Type 0) (xs ys : List A) → Each P xs → Each P ys → Each P (xs ++ ys)
each-append P [] ys h k = k
each-append P (x ∷ xs) ys h k = (h.0, each-append P xs ys h.1 k)

pub each-left : {A : Type 0} (P : A → Type 0) (xs ys : List A) → Each P (xs ++ ys) → Each P xs
each-left P [] ys h = tt
each-left P (x ∷ xs) ys h = (h.0, each-left P xs ys h.1)

pub each-right : {A : Type 0} (P : A → Type 0) (xs ys : List A) → Each P (xs ++ ys) → Each P ys
each-right P [] ys h = h
each-right P (x ∷ xs) ys h = each-right P xs ys h.1

pub each-reverse : {A : Type 0} (P : A → Type 0) (xs : List A) → Each P xs → Each P (reverse xs)
each-reverse P [] h = tt
each-reverse P (x ∷ xs) h = subst (Each P) (sym (reverse-append (x ∷ []) xs)) (each-append P (reverse xs) (x ∷ []) (each-reverse P xs h.1) (h.0, tt))

pub each-forward : {A : Type 0} (P : A → Type 0) (xs : List A) → Each P (reverse xs) → Each P xs
each-forward P [] h = tt
each-forward P (x ∷ xs) h =
    let k = subst (Each P) (reverse-append (x ∷ []) xs) h in ((each-right P (reverse xs) (x ∷ []) k).0, each-forward P xs (each-left P (reverse xs) (x ∷ []) k))

-- each of a list, but perhaps for the last
pub record CutLast {A : Type 0} (P : A → Type 0) (xs : List A) : Type 0 where
  pub front : List A
  pub last : List A
  pub all : xs ≡ front ++ last
  pub few : length last ≤ 1
  pub each : Each P front

-- ---- a map from names

abbrev R : List ℕ → List ℕ → Ordering
R = slice_cmp nat_cmp

-- the order ties only equal names
ties : (q k : List ℕ) → eq_by_cmp R q k ≡ true → q ≡ k
ties q k = go (R q k) refl
  where
    go : (r : Ordering) → R q k ≡ r → is_eq r ≡ true → q ≡ k
    go Equal e h = slice_cmp-IsAntisymmetric nat_cmp-IsAntisymmetric q k e
    go Less e h = cc
    go Greater e h = cc

tied : (k : List ℕ) → eq_by_cmp R k k ≡ true
tied k = (eq_by_cmp_equiv nat_list_cmp_total).refl k

-- a name is another one or not
pub apart-or-not : (q k : List ℕ) → (q ≡ k) ⊎ (q ≡ k → ⊥)
apart-or-not q k = go (eq_by_cmp R q k) refl
  where
    go : (b : Bool) → eq_by_cmp R q k ≡ b → (q ≡ k) ⊎ (q ≡ k → ⊥)
    go true e = inl (ties q k e)
    go false e = inr (λ same. let yes : eq_by_cmp R q k ≡ true = ap (λ z. eq_by_cmp R q z) (sym same) ∙ tied q in (let no : ⊥ = cc in no))

pub at-same : (m : Content) (k v : List ℕ) → get (insert m k v) k ≡ Some v
at-same m k v = get-insert nat_list_cmp_total m k v k ∙ ap (λ b. cond b (Some v) (get m k)) (tied k)

pub at-other : (m : Content) (k v q : List ℕ) → (q ≡ k → ⊥) → get (insert m k v) q ≡ get m q
at-other m k v q apart = get-insert nat_list_cmp_total m k v q ∙ go (eq_by_cmp R q k) refl
  where
    go : (b : Bool) → eq_by_cmp R q k ≡ b → cond b (Some v) (get m q) ≡ get m q
    go true e = absurd (apart (ties q k e))
    go false e = refl

-- ---- writes, one after another

abbrev pub writes : List Put → Content → Content
writes [] m = m
writes (p ∷ ps) m = writes ps (insert m p.path p.bytes)

pub put_all-told : (files : List Put) (m : Content) → put_all files (Some m) ≡ Some (writes files m)
put_all-told [] m = refl
put_all-told (p ∷ ps) m = put_all-told ps (insert m p.path p.bytes)

abbrev pub IsNoneOf : List Put → List ℕ → Type 0
IsNoneOf files q = Each (λ p. q ≡ p.path → ⊥) files

-- other files stay
pub elsewhere : (files : List Put) (m : Content) (q : List ℕ) → IsNoneOf files q → get (writes files m) q ≡ get m q
elsewhere [] m q n = refl
elsewhere (p ∷ ps) m q n = elsewhere ps (insert m p.path p.bytes) q n.1 ∙ at-other m p.path p.bytes q n.0

-- what holds the same elsewhere, and is given these bytes here, is the same
settled : (files : List Put) (c m : Content) → Each (λ p. get m p.path ≡ Some p.bytes) files → ((q : List ℕ) → IsNoneOf files q → get c q ≡ get m q) → writes files c ≡ m
settled [] c m h same = same_map nat_list_cmp_total (slice_cmp-IsAntisymmetric nat_cmp-IsAntisymmetric) c m (λ q. same q tt)
settled (p ∷ ps) c m h same = settled ps (insert c p.path p.bytes) m h.1 (λ q none. go q none (apart-or-not q p.path))
  where
    go : (q : List ℕ) → IsNoneOf ps q → (q ≡ p.path) ⊎ (q ≡ p.path → ⊥) → get (insert c p.path p.bytes) q ≡ get m q
    go q none (inl e) = ap (get (insert c p.path p.bytes)) e ∙ at-same c p.path p.bytes ∙ sym h.0 ∙ ap (get m) (sym e)
    go q none (inr apart) = at-other c p.path p.bytes q apart ∙ same q (apart, none)

-- ---- old bytes put back

abbrev back : Put → Put
back p = record { path = p.path; name = p.name; was = p.was; bytes = p.was }

all-back-content : (files : List Put) (s u : Seen) (names : List (List ℕ)) → GoBack files s u names → names ≡ [] → u.content ≡ put_all (map back files) s.content
all-back-content _ s _ _ (all_back _) e = refl
all-back-content _ s u names (is_back file files _ t _ _ r more) e = all-back-content files t u names more e ∙ ap (put_all (map back files)) r.put
all-back-content _ s u _ (is_lost file files _ t _ names why r more) e = absurd (let no : ⊥ = cc in no)

-- memory ran out, and no file is told of
memory-alone : (name : List ℕ) (why : StoreError) (still : List (List ℕ)) → OutOfMemory ≡ fault_of name why still → (why ≡ error.OutOfMemory) × (still ≡ [])
memory-alone name error.Device still e = absurd (let no : ⊥ = cc in no)
memory-alone name error.Unchanged still e = absurd (let no : ⊥ = cc in no)
memory-alone name error.OutOfMemory [] e = (refl, refl)
memory-alone name error.OutOfMemory (x ∷ still) e = absurd (let no : ⊥ = cc in no)

none-of-back : (files : List Put) (q : List ℕ) → IsNoneOf (map back files) q → IsNoneOf files q
none-of-back [] q n = tt
none-of-back (p ∷ ps) q n = (n.0, none-of-back ps q n.1)

holds-back : (m : Content) (files : List Put) → Each (λ p. get m p.path ≡ Some p.was) files → Each (λ p. get m p.path ≡ Some p.bytes) (map back files)
holds-back m [] h = tt
holds-back m (p ∷ ps) h = (h.0, holds-back m ps h.1)

module _ (m : Content) where
  -- the store holds what the file held
  abbrev pub HasOld : Put → Type 0
  HasOld p = get m p.path ≡ Some p.was

  settles : (done : List Put) → Each HasOld done → writes (map back (reverse done)) (writes done m) ≡ m
  settles done held = settled (map back (reverse done)) (writes done m) m (holds-back m (reverse done) (each-reverse HasOld done held)) same
    where
      same : (q : List ℕ) → IsNoneOf (map back (reverse done)) q → get (writes done m) q ≡ get m q
      same q n = elsewhere done m q (each-forward (λ p. q ≡ p.path → ⊥) done (none-of-back (reverse done) q n))

  -- what was replaced before one failed is none of the last
  done-old : (done : List Put) (failed : Put) (rest front last : List Put) → done ++ (failed ∷ rest) ≡ front ++ last → length last ≤ 1 → Each HasOld front → Each HasOld done
  done-old [] failed rest front last e few olds = tt
  done-old (d ∷ done) failed rest [] last e few olds =
      let many : length (d ∷ (done ++ (failed ∷ rest))) ≡ length last = ap length e in
      let parts : length (done ++ (failed ∷ rest)) ≡ length done + length (failed ∷ rest) = length-append done (failed ∷ rest) in
      absurd (omega arith)
  done-old (d ∷ done) failed rest (f ∷ front) last e few olds =
      let first : f ≡ d = cc in
      let more : done ++ (failed ∷ rest) ≡ front ++ last = cc in
      (subst HasOld first olds.0, done-old done failed rest front last more few olds.1)

  -- a commit for which memory ran out, of files that are held, but perhaps for the last one
  pub restored : (files : List Put) (before after : Seen) → TakenBack files before after OutOfMemory → before.content ≡ Some m → CutLast HasOld files → after.content ≡ Some m
  restored files before after h told cut =
      let alone = memory-alone h.stops.failed.name h.why h.still h.told in
      let done = h.stops.done in
      let olds : Each HasOld done = done-old done h.stops.failed h.stops.rest cut.front cut.last (sym h.stops.all ∙ cut.all) cut.few cut.each in
      let reached : h.stops.reached.content ≡ Some (writes done m) = h.stops.are.put ∙ ap (put_all done) told ∙ put_all-told done m in
      let stopped : h.stopped.content ≡ Some (writes done m) =
      left h.why h.stops.failed.path h.stops.failed.bytes h.stops.reached.content h.stopped.content alone.0 h.stops.fails.left ∙ reached in
      let gone : GoBack (reverse done) h.stopped after h.still = subst (λ w. GoBack (to_go_back w h.stops.failed done) h.stopped after h.still) alone.0 h.back in
      all-back-content (reverse done) h.stopped after h.still gone alone.1
      ∙ ap (put_all (map back (reverse done))) stopped
      ∙ put_all-told (map back (reverse done)) (writes done m)
      ∙ ap Some (settles done olds)
    where
      left : (why : StoreError) (path bytes : List ℕ) (c d : Option Content) → why ≡ error.OutOfMemory → Leaves why path bytes c d → d ≡ c
      left error.Device path bytes c d e l = absurd (let no : ⊥ = cc in no)
      left error.Unchanged path bytes c d e l = l
      left error.OutOfMemory path bytes c d e l = l

-- a store that tells nothing tells nothing then
pub untold : (files : List Put) → put_all files None ≡ None
untold [] = refl
untold (p ∷ ps) = untold ps

pub untold-restored : (files : List Put) (before after : Seen) → TakenBack files before after OutOfMemory → before.content ≡ None → after.content ≡ None
untold-restored files before after h none =
    let alone = memory-alone h.stops.failed.name h.why h.still h.told in
    let tried : List Put = map back (to_go_back h.why h.stops.failed h.stops.done) in
    all-back-content (to_go_back h.why h.stops.failed h.stops.done) h.stopped after h.still h.back alone.1
    ∙ ap (put_all tried) (left h.why h.stops.failed.path h.stops.failed.bytes h.stops.reached.content h.stopped.content h.stops.fails.left (h.stops.are.put ∙ ap (put_all h.stops.done) none ∙ untold h.stops.done))
    ∙ untold tried
  where
    left : (why : StoreError) (path bytes : List ℕ) (c d : Option Content) → Leaves why path bytes c d → c ≡ None → d ≡ None
    left error.Device path bytes c d (inl l) e = l ∙ e
    left error.Device path bytes c d (inr l) e = l ∙ ap (λ z. content_with z path bytes) e
    left error.Unchanged path bytes c d l e = l ∙ e
    left error.OutOfMemory path bytes c d l e = l ∙ e

-- ---- files that are to be written

pub puts-each : (P : Put → Type 0) (folder : Option (List ℕ)) (before after : List File) → Each (λ f. (bytes : List ℕ) → P (put_at folder f bytes)) before → Each P (puts folder before after)
puts-each P folder [] after h = tt
puts-each P folder (b ∷ before) [] h = tt
puts-each P folder (b ∷ before) (a ∷ after) h = go (bytes_eq b.bytes a.bytes) (puts-each P folder before after h.1)
  where
    go : (same : Bool) → Each P (puts folder before after) → Each P (cond same (puts folder before after) (put_at folder b a.bytes ∷ puts folder before after))
    go true rest = rest
    go false rest = (h.0 a.bytes, rest)

-- the last file may be another one
pub puts-cut : (P : Put → Type 0) (folder : Option (List ℕ)) (before : List File) (last : File) (after : List File) → Each (λ f. (bytes : List ℕ) → P (put_at folder f bytes)) before
    → CutLast P (puts folder (before ++ last ∷ []) after)
puts-cut P folder [] last [] h = record { front = []; last = []; all = refl; few = omega arith; each = tt }
puts-cut P folder [] last (a ∷ after) h =
    record { front = []; last = puts folder (last ∷ []) (a ∷ after); all = refl; few = few (bytes_eq last.bytes a.bytes); each = tt }
  where
    few : (same : Bool) → length (cond same (puts folder [] after) (put_at folder last a.bytes ∷ puts folder [] after)) ≤ 1
    few true = omega arith
    few false = omega arith
puts-cut P folder (b ∷ before) last [] h = record { front = []; last = []; all = refl; few = omega arith; each = tt }
puts-cut P folder (b ∷ before) last (a ∷ after) h = go (bytes_eq b.bytes a.bytes) (puts-cut P folder before last after h.1)
  where
    go : (same : Bool) → CutLast P (puts folder (before ++ last ∷ []) after)
        → CutLast P (cond same (puts folder (before ++ last ∷ []) after) (put_at folder b a.bytes ∷ puts folder (before ++ last ∷ []) after))
    go true cut = cut
    go false cut =
        record { front = put_at folder b a.bytes ∷ cut.front; last = cut.last; all = ap (λ ps. put_at folder b a.bytes ∷ ps) cut.all; few = cut.few; each = (h.0 a.bytes, cut.each) }
