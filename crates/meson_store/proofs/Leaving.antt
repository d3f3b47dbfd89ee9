-- What a failed commit leaves of each file.
use Rattle.std.proofs.Common.{◌≡◌, ℕ, suc, zero, ◌⊎◌, Bool, true, false, cond, List, [], ◌∷◌, ◌++◌, Option, Some, None, inl, inr, refl, sym, subst, ap, ◌∙◌, reverse, arith}
use Rattle.std.proofs.lemmas.List.{append_cancel_left, reverse-append}
use Rattle.std.specs.FinMap.{get, insert}
use Rattle.std.specs.List.{Contains}
use Rattle.std.specs.Prelude.{bytes_eq, codes}
use Rattle.meson_splice.specs.Files.{IsDistinct}
use Rattle.meson_splice.specs.declared.file_set.File.{File}
use Rattle.meson_store.proofs.Restoring.{Each, IsNoneOf, apart-or-not, at-other, at-same, each-append, each-forward, each-left, each-map, each-reverse, each-right, elsewhere, put_all-told, puts-each, writes}
use Rattle.meson_store.specs.StoreCalls.{Leaves}
use Rattle.meson_store.specs.Commit.{CommitFails, GoBack, Put, TakenBack, all_back, fault_of, is_back, is_lost, path_in, put_all, put_at, puts, still_new, to_go_back}
use Rattle.meson_store.specs.Content.{Content, content_with}
use Rattle.meson_store.specs.Laws.{Failed, IsTold, tried}
use Rattle.meson_store.specs.Seen.{Seen}
use Rattle.meson_store.specs.declared.store.StoreError.{StoreError}
use Rattle.meson_store.specs.declared.store.StoreError.TheVariants as error
use Rattle.meson_store.specs.declared.store_fault.StoreFault.{StoreFault}

-- ---- elements of lists

here : {A : Type 0} (x : A) (xs : List A) → Contains (x ∷ xs) x
here x xs = (0, omega arith, refl)

there : {A : Type 0} (y : A) (xs : List A) (x : A) → Contains xs x → Contains (y ∷ xs) x
there y xs x (k, h, e) = (suc k, omega (arith, h), e)

at : {A : Type 0} (P : A → Type 0) (xs : List A) (x : A) → Each P xs → Contains xs x → P x
at P [] x each (k, h, e) = absurd (omega (arith, h))
at P (y ∷ ys) x each (zero, h, e) = subst P e each.0
at P (y ∷ ys) x each (suc k, h, e) = at P ys x each.1 (k, omega (arith, h), e)

of-all : {A : Type 0} (P : A → Type 0) (xs : List A) → ((x : A) → Contains xs x → P x) → Each P xs
of-all P [] f = tt
of-all P (x ∷ xs) f = (f x (here x xs), of-all P xs (λ y c. f y (there x xs y c)))

pub each-both : {A : Type 0} (P Q R : A → Type 0) → ((x : A) → P x → Q x → R x) → (xs : List A) → Each P xs → Each Q xs → Each R xs
each-both P Q R f [] h k = tt
each-both P Q R f (x ∷ xs) h k = (f x h.0 k.0, each-both P Q R f xs h.1 k.1)

-- ---- files at paths of their own

abbrev Apart : List Put → Type 0
Apart [] = Unit {0}
Apart (p ∷ ps) = IsNoneOf ps p.path × Apart ps

apart-left : (xs ys : List Put) → Apart (xs ++ ys) → Apart xs
apart-left [] ys h = tt
apart-left (x ∷ xs) ys h = (each-left (λ p. x.path ≡ p.path → ⊥) xs ys h.0, apart-left xs ys h.1)

-- one behind others is none of them
apart-before : (xs : List Put) (y : Put) (ys : List Put) → Apart (xs ++ (y ∷ ys)) → IsNoneOf xs y.path
apart-before [] y ys h = tt
apart-before (x ∷ xs) y ys h = (λ e. (each-right (λ p. x.path ≡ p.path → ⊥) xs (y ∷ ys) h.0).0 (sym e), apart-before xs y ys h.1)

apart-push : (xs : List Put) (y : Put) → Apart xs → IsNoneOf xs y.path → Apart (xs ++ (y ∷ []))
apart-push [] y h none = (tt, tt)
apart-push (x ∷ xs) y h none = (each-append (λ p. x.path ≡ p.path → ⊥) xs (y ∷ []) h.0 (λ e. none.0 (sym e), tt), apart-push xs y h.1 none.1)

apart-reverse : (xs : List Put) → Apart xs → Apart (reverse xs)
apart-reverse [] h = tt
apart-reverse (x ∷ xs) h = subst Apart (sym (reverse-append (x ∷ []) xs)) (apart-push (reverse xs) x (apart-reverse xs h.1) (each-reverse (λ p. x.path ≡ p.path → ⊥) xs h.0))

path-is : (folder : Option (List ℕ)) (a b : List ℕ) → path_in folder a ≡ path_in folder b → a ≡ b
path-is None a b e = e
path-is (Some folder) a b e = append_cancel_left (folder ++ codes "/") a b e

puts-apart : (folder : Option (List ℕ)) (old new : List File) → IsDistinct old → Apart (puts folder old new)
puts-apart folder [] new distinct = tt
puts-apart folder (b ∷ old) [] distinct = tt
puts-apart folder (b ∷ old) (a ∷ new) distinct =
    go (bytes_eq b.bytes a.bytes) (puts-apart folder old new (λ i j d h k. distinct (suc i) (suc j) d (omega (arith, h)) (omega (arith, k))))
  where
    others : Each (λ f. (bytes : List ℕ) → (path_in folder b.name ≡ path_in folder f.name) → ⊥) old
    others = of-all (λ f. (bytes : List ℕ) → (path_in folder b.name ≡ path_in folder f.name) → ⊥) old
        (λ f c bytes e. distinct 0 (suc c.0) f (omega arith) (omega (arith, c.1)) (path-is folder b.name f.name e ∙ ap (λ g. g.name) (sym c.2)))

    go : (same : Bool) → Apart (puts folder old new) → Apart (cond same (puts folder old new) (put_at folder b a.bytes ∷ puts folder old new))
    go true rest = rest
    go false rest = (puts-each (λ p. path_in folder b.name ≡ p.path → ⊥) folder old new others, rest)

-- ---- what the store holds after its files got old bytes again

pub some-is : {a b : Content} → Some a ≡ Some b → a ≡ b
some-is e = cc

after-loss : (why : StoreError) (path bytes : List ℕ) (c : Content) (s t : Option Content) → s ≡ Some c → Leaves why path bytes s t → (t ≡ Some c) ⊎ (t ≡ Some (insert c path bytes))
after-loss error.Device path bytes c s t e (inl l) = inl (l ∙ e)
after-loss error.Device path bytes c s t e (inr l) = inr (l ∙ ap (λ z. content_with z path bytes) e)
after-loss error.Unchanged path bytes c s t e l = inl (l ∙ e)
after-loss error.OutOfMemory path bytes c s t e l = inl (l ∙ e)

after-back : (path bytes : List ℕ) (c : Content) (s t : Option Content) → s ≡ Some c → t ≡ content_with s path bytes → t ≡ Some (insert c path bytes)
after-back path bytes c s t e l = l ∙ ap (λ z. content_with z path bytes) e

-- other files stay
back-elsewhere : (files : List Put) (s u : Seen) (names : List (List ℕ)) → GoBack files s u names → (c n : Content) → s.content ≡ Some c → u.content ≡ Some n → (q : List ℕ) →
    IsNoneOf files q → get n q ≡ get c q
back-elsewhere _ s _ _ (all_back _) c n hc hn q none = ap (λ m. get m q) (some-is (sym hn ∙ hc))
back-elsewhere _ s u names (is_back file files _ t _ _ r more) c n hc hn q none =
    back-elsewhere files t u names more (insert c file.path file.was) n (after-back file.path file.was c s.content t.content hc r.put) hn q none.1
    ∙ at-other c file.path file.was q none.0
back-elsewhere _ s u _ (is_lost file files _ t _ names why r more) c n hc hn q none = elim (after-loss why file.path file.was c s.content t.content hc r.left) [
  | inl e ↦ back-elsewhere files t u names more c n e hn q none.1
  | inr e ↦ back-elsewhere files t u names more (insert c file.path file.was) n e hn q none.1 ∙ at-other c file.path file.was q none.0
]

-- a file has its old bytes again, or is listed and has what it had before
abbrev IsBackOrListed : List (List ℕ) → Content → Content → Put → Type 0
IsBackOrListed names c n p = (get n p.path ≡ Some p.was) ⊎ (Contains names p.name × (get n p.path ≡ get c p.path))

-- the same of files behind one that got its bytes, and of more names
later : (file p : Put) (names : List (List ℕ)) (bytes : List ℕ) (c n : Content) → (file.path ≡ p.path → ⊥) → IsBackOrListed names (insert c file.path bytes) n p → IsBackOrListed names c n p
later file p names bytes c n apart (inl e) = inl e
later file p names bytes c n apart (inr l) = inr (l.0, l.1 ∙ at-other c file.path bytes p.path (λ e. apart (sym e)))

listed-more : (name : List ℕ) (names : List (List ℕ)) (c n : Content) (p : Put) → IsBackOrListed names c n p → IsBackOrListed (name ∷ names) c n p
listed-more name names c n p (inl e) = inl e
listed-more name names c n p (inr l) = inr (there name names p.name l.0, l.1)

each-back : (files : List Put) (s u : Seen) (names : List (List ℕ)) → GoBack files s u names → Apart files → (c n : Content) → s.content ≡ Some c → u.content ≡ Some n →
    Each (IsBackOrListed names c n) files
each-back _ s _ _ (all_back _) apart c n hc hn = tt
each-back _ s u names (is_back file files _ t _ _ r more) apart c n hc hn =
    let next : Content = insert c file.path file.was in
    let told : t.content ≡ Some next = after-back file.path file.was c s.content t.content hc r.put in (
      inl (back-elsewhere files t u names more next n told hn file.path apart.0 ∙ at-same c file.path file.was),
      each-both (λ p. file.path ≡ p.path → ⊥) (IsBackOrListed names next n) (IsBackOrListed names c n) (λ p. later file p names file.was c n) files apart.0
          (each-back files t u names more apart.1 next n told hn),
    )
each-back _ s u _ (is_lost file files _ t _ names why r more) apart c n hc hn = elim (after-loss why file.path file.was c s.content t.content hc r.left) [
  | inl e ↦ (
    inr (here file.name names, back-elsewhere files t u names more c n e hn file.path apart.0),
    each-map (IsBackOrListed names c n) (IsBackOrListed (file.name ∷ names) c n) (listed-more file.name names c n) files (each-back files t u names more apart.1 c n e hn),
  )
  | inr e ↦ (
    inl (back-elsewhere files t u names more (insert c file.path file.was) n e hn file.path apart.0 ∙ at-same c file.path file.was),
    each-both (λ p. file.path ≡ p.path → ⊥) (IsBackOrListed names (insert c file.path file.was) n) (IsBackOrListed (file.name ∷ names) c n)
        (λ p a l. listed-more file.name names c n p (later file p names file.was c n a l)) files apart.0
        (each-back files t u names more apart.1 (insert c file.path file.was) n e hn),
  )
]

-- what is listed are names of these files
listed : (files : List Put) (s u : Seen) (names : List (List ℕ)) → GoBack files s u names → Each (λ name. (p : Put) × Contains files p × (p.name ≡ name)) names
listed _ s _ _ (all_back _) = tt
listed _ s u names (is_back file files _ t _ _ r more) =
    each-map (λ name. (p : Put) × Contains files p × (p.name ≡ name)) _ (λ name l. (l.0, there file files l.0 l.1, l.2)) names (listed files t u names more)
listed _ s u _ (is_lost file files _ t _ names why r more) = (
  (file, here file files, refl),
  each-map (λ name. (p : Put) × Contains files p × (p.name ≡ name)) _ (λ name l. (l.0, there file files l.0 l.1, l.2)) names (listed files t u names more),
)

-- at a path of no listed file stands what such a file held, or what stood there
back-at : (files : List Put) (s u : Seen) (names : List (List ℕ)) → GoBack files s u names → (c n : Content) → s.content ≡ Some c → u.content ≡ Some n → (V : Option (List ℕ)) (q : List ℕ) →
    Each (λ p. q ≡ p.path → (Contains names p.name → ⊥) × (V ≡ Some p.was)) files → (get n q ≡ V) ⊎ (IsNoneOf files q × (get n q ≡ get c q))
back-at _ s _ _ (all_back _) c n hc hn V q h = inr (tt, ap (λ z. get z q) (some-is (sym hn ∙ hc)))
back-at _ s u names (is_back file files _ t _ _ r more) c n hc hn V q h =
    elim (back-at files t u names more (insert c file.path file.was) n (after-back file.path file.was c s.content t.content hc r.put) hn V q h.1) [
      | inl e ↦ inl e
      | inr l ↦ elim (apart-or-not q file.path) [
        | inl same ↦ inl (l.1 ∙ ap (get (insert c file.path file.was)) same ∙ at-same c file.path file.was ∙ sym (h.0 same).1)
        | inr apart ↦ inr ((apart, l.0), l.1 ∙ at-other c file.path file.was q apart)
      ]
    ]
back-at _ s u _ (is_lost file files _ t _ names why r more) c n hc hn V q h = elim (apart-or-not q file.path) [
  | inl same ↦ absurd ((h.0 same).0 (here file.name names))
  | inr apart ↦
      let rest = each-map (λ p. q ≡ p.path → (Contains (file.name ∷ names) p.name → ⊥) × (V ≡ Some p.was)) (λ p. q ≡ p.path → (Contains names p.name → ⊥) × (V ≡ Some p.was))
      (λ p k e. (λ l. (k e).0 (there file.name names p.name l), (k e).1)) files h.1 in
      elim (after-loss why file.path file.was c s.content t.content hc r.left) [
        | inl e ↦ elim (back-at files t u names more c n e hn V q rest) [
          | inl is ↦ inl is
          | inr l ↦ inr ((apart, l.0), l.1)
        ]
        | inr e ↦ elim (back-at files t u names more (insert c file.path file.was) n e hn V q rest) [
          | inl is ↦ inl is
          | inr l ↦ inr ((apart, l.0), l.1 ∙ at-other c file.path file.was q apart)
        ]
      ]
]

-- ---- a replace that failed

-- of each file that is tried
each-tried : (P : Put → Type 0) (why : StoreError) (failed : Put) (done : List Put) → P failed → Each P done → Each P (to_go_back why failed done)
each-tried P error.Device failed done h hs = (h, each-reverse P done hs)
each-tried P error.Unchanged failed done h hs = each-reverse P done hs
each-tried P error.OutOfMemory failed done h hs = each-reverse P done hs

tried-apart : (why : StoreError) (failed : Put) (done rest : List Put) → Apart (done ++ (failed ∷ rest)) → Apart (to_go_back why failed done)
tried-apart error.Device failed done rest h = (each-reverse (λ p. failed.path ≡ p.path → ⊥) done (apart-before done failed rest h), apart-reverse done (apart-left done (failed ∷ rest) h))
tried-apart error.Unchanged failed done rest h = apart-reverse done (apart-left done (failed ∷ rest) h)
tried-apart error.OutOfMemory failed done rest h = apart-reverse done (apart-left done (failed ∷ rest) h)

-- what the fault lists
still-is : (name : List ℕ) (why : StoreError) (still : List (List ℕ)) → still_new (fault_of name why still) ≡ still
still-is name error.Device still = refl
still-is name error.Unchanged still = refl
still-is name error.OutOfMemory [] = refl
still-is name error.OutOfMemory (x ∷ still) = refl

-- files that got their bytes have them
each-written : (files : List Put) → Apart files → (m : Content) → Each (λ p. get (writes files m) p.path ≡ Some p.bytes) files
each-written [] h m = tt
each-written (p ∷ ps) h m = (elsewhere ps (insert m p.path p.bytes) p.path h.0 ∙ at-same m p.path p.bytes, each-written ps h.1 (insert m p.path p.bytes))

-- a file has its new bytes, or what it had
abbrev IsNewOrHeld : Content → Content → Put → Type 0
IsNewOrHeld m c p = (get c p.path ≡ Some p.bytes) ⊎ (get c p.path ≡ get m p.path)

stopped-at : (failed : Put) (done : List Put) (m c : Content) → Apart done → IsNoneOf done failed.path → (c ≡ writes done m) ⊎ (c ≡ insert (writes done m) failed.path failed.bytes) →
    IsNewOrHeld m c failed × Each (IsNewOrHeld m c) done
stopped-at failed done m c apart none (inl e) = (
  inr (ap (λ z. get z failed.path) e ∙ elsewhere done m failed.path none),
  each-map (λ p. get (writes done m) p.path ≡ Some p.bytes) (IsNewOrHeld m c) (λ p is. inl (ap (λ z. get z p.path) e ∙ is)) done (each-written done apart m),
)
stopped-at failed done m c apart none (inr e) = (
  inl (ap (λ z. get z failed.path) e ∙ at-same (writes done m) failed.path failed.bytes),
  each-both (λ p. failed.path ≡ p.path → ⊥) (λ p. get (writes done m) p.path ≡ Some p.bytes) (IsNewOrHeld m c)
      (λ p other is. inl (ap (λ z. get z p.path) e ∙ at-other (writes done m) failed.path failed.bytes p.path (λ same. other (sym same)) ∙ is)) done none (each-written done apart m),
)

-- a file has its old bytes, or is told of and has its new ones or what it had
abbrev IsLeft : Content → Content → List (List ℕ) → Put → Type 0
IsLeft m n names p = (get n p.path ≡ Some p.was) ⊎ (Contains names p.name × IsNewOrHeld m n p)

left-of : (m c n : Content) (names : List (List ℕ)) (p : Put) → IsNewOrHeld m c p → IsBackOrListed names c n p → IsLeft m n names p
left-of m c n names p h (inl e) = inl e
left-of m c n names p (inl e) (inr l) = inr (l.0, inl (l.1 ∙ e))
left-of m c n names p (inr e) (inr l) = inr (l.0, inr (l.1 ∙ e))

module _ (files : List Put) (before after : Seen) (fault : StoreFault) (h : TakenBack files before after fault) (m n : Content) (told : before.content ≡ Some m) (holds : after.content ≡ Some n) where
  reached : h.stops.reached.content ≡ Some (writes h.stops.done m)
  reached = h.stops.are.put ∙ ap (put_all h.stops.done) told ∙ put_all-told h.stops.done m

  -- what the store held when one could not be replaced
  stopped : (c : Content) × (h.stopped.content ≡ Some c) × ((c ≡ writes h.stops.done m) ⊎ (c ≡ insert (writes h.stops.done m) h.stops.failed.path h.stops.failed.bytes))
  stopped = elim (after-loss h.why h.stops.failed.path h.stops.failed.bytes (writes h.stops.done m) h.stops.reached.content h.stopped.content reached h.stops.fails.left) [
    | inl e ↦ (writes h.stops.done m, e, inl refl)
    | inr e ↦ (insert (writes h.stops.done m) h.stops.failed.path h.stops.failed.bytes, e, inr refl)
  ]

  tells : still_new fault ≡ h.still
  tells = ap still_new h.told ∙ still-is h.stops.failed.name h.why h.still

  each-tried-left : Apart files → Each (IsLeft m n (still_new fault)) (to_go_back h.why h.stops.failed h.stops.done)
  each-tried-left apart =
      let parts : Apart (h.stops.done ++ (h.stops.failed ∷ h.stops.rest)) = subst Apart h.stops.all apart in
      let c : Content = stopped.0 in
      let at_stop = stopped-at h.stops.failed h.stops.done m c (apart-left h.stops.done (h.stops.failed ∷ h.stops.rest) parts) (apart-before h.stops.done h.stops.failed h.stops.rest parts) stopped.2 in
      subst (λ names. Each (IsLeft m n names) (to_go_back h.why h.stops.failed h.stops.done)) (sym tells)
      (each-both (IsNewOrHeld m c) (IsBackOrListed h.still c n) (IsLeft m n h.still) (left-of m c n h.still) (to_go_back h.why h.stops.failed h.stops.done)
      (each-tried (IsNewOrHeld m c) h.why h.stops.failed h.stops.done at_stop.0 at_stop.1)
      (each-back (to_go_back h.why h.stops.failed h.stops.done) h.stopped after h.still h.back (tried-apart h.why h.stops.failed h.stops.done h.stops.rest parts) c n stopped.1 holds))

  each-told-tried : Each (λ name. (p : Put) × Contains (to_go_back h.why h.stops.failed h.stops.done) p × (p.name ≡ name)) (still_new fault)
  each-told-tried =
      subst (Each (λ name. (p : Put) × Contains (to_go_back h.why h.stops.failed h.stops.done) p × (p.name ≡ name))) (sym tells)
      (listed (to_go_back h.why h.stops.failed h.stops.done) h.stopped after h.still h.back)

  -- at a path of none that was tried
  untried : (why : StoreError) (failed : Put) (done : List Put) (reached stopped : Option Content) (c : Content) (q : List ℕ) → reached ≡ Some (writes done m) →
      Leaves why failed.path failed.bytes reached stopped → stopped ≡ Some c → IsNoneOf (to_go_back why failed done) q → get c q ≡ get m q
  untried why failed done reached stopped c q is left now none = go why left none
    where
      old : IsNoneOf (reverse done) q → get (writes done m) q ≡ get m q
      old k = elsewhere done m q (each-forward (λ p. q ≡ p.path → ⊥) done k)

      kept : IsNoneOf (reverse done) q → stopped ≡ reached → get c q ≡ get m q
      kept k e = ap (λ z. get z q) (some-is (sym now ∙ e ∙ is)) ∙ old k

      go : (why : StoreError) → Leaves why failed.path failed.bytes reached stopped → IsNoneOf (to_go_back why failed done) q → get c q ≡ get m q
      go error.Device (inl e) k = kept k.1 e
      go error.Device (inr e) k =
          ap (λ z. get z q) (some-is (sym now ∙ after-back failed.path failed.bytes (writes done m) reached stopped is e))
          ∙ at-other (writes done m) failed.path failed.bytes q k.0 ∙ old k.1
      go error.Unchanged e k = kept k e
      go error.OutOfMemory e k = kept k e

  -- at the path of a file that is not listed stands what it held, or what stood there
  pub untold-at : (V : Option (List ℕ)) (q : List ℕ) → Each (λ p. q ≡ p.path → (Contains (still_new fault) p.name → ⊥) × (V ≡ Some p.was)) files → (get n q ≡ V) ⊎ (get n q ≡ get m q)
  untold-at V q all =
      let P : List (List ℕ) → Put → Type 0 = λ names p. q ≡ p.path → (Contains names p.name → ⊥) × (V ≡ Some p.was) in
      let parts : Each (P h.still) (h.stops.done ++ (h.stops.failed ∷ h.stops.rest)) = subst (Each (P h.still)) h.stops.all (subst (λ names. Each (P names) files) tells all) in
      let tried : Each (P h.still) (to_go_back h.why h.stops.failed h.stops.done) =
      each-tried (P h.still) h.why h.stops.failed h.stops.done (each-right (P h.still) h.stops.done (h.stops.failed ∷ h.stops.rest) parts).0 (each-left (P h.still) h.stops.done (h.stops.failed ∷ h.stops.rest) parts) in
      elim (back-at (to_go_back h.why h.stops.failed h.stops.done) h.stopped after h.still h.back stopped.0 n stopped.1 holds V q tried) [
        | inl e ↦ inl e
        | inr l ↦ inr (l.1 ∙ untried h.why h.stops.failed h.stops.done h.stops.reached.content h.stopped.content stopped.0 q reached h.stops.fails.left stopped.1 l.0)
      ]

-- ---- the laws

module _ (folder : Option (List ℕ)) (old new : List File) (held left : Content) (fault : StoreFault) (f : Failed folder old new held left fault) where
  pub left-tried : (p : Put) → Contains (tried f.fails) p → IsLeft held left (still_new fault) p
  left-tried p c = go f.fails c
    where
      go : (fails : CommitFails (puts folder old new) f.before f.after fault) → Contains (tried fails) p → IsLeft held left (still_new fault) p
      go (inl none) c = absurd (omega (arith, c.1))
      go (inr h) c = at (IsLeft held left (still_new fault)) (to_go_back h.why h.stops.failed h.stops.done) p
          (each-tried-left (puts folder old new) f.before f.after fault h held left f.told_before f.told_after (puts-apart folder old new f.distinct)) c

  pub told-was-tried : (name : List ℕ) → Contains (still_new fault) name → (p : Put) × Contains (tried f.fails) p × (p.name ≡ name)
  told-was-tried name c = go f.fails
    where
      go : (fails : CommitFails (puts folder old new) f.before f.after fault) → (p : Put) × Contains (tried fails) p × (p.name ≡ name)
      go (inl none) = absurd (let k : Contains [] name = subst (λ z. Contains (still_new z) name) none.0 c in omega (arith, k.1))
      go (inr h) = at (λ n. (p : Put) × Contains (to_go_back h.why h.stops.failed h.stops.done) p × (p.name ≡ n)) (still_new fault) name
          (each-told-tried (puts folder old new) f.before f.after fault h held left f.told_before f.told_after) c

  pub untold-is-as-before : (path : List ℕ) → ((p : Put) → Contains (puts folder old new) p → path ≡ p.path → (IsTold fault p → ⊥) × (get held path ≡ Some p.was)) → get left path ≡ get held path
  untold-is-as-before path each = go f.fails
    where
      go : CommitFails (puts folder old new) f.before f.after fault → get left path ≡ get held path
      go (inl none) = ap (λ m. get m path) (some-is (sym f.told_after ∙ none.1.kept ∙ f.told_before))
      go (inr h) =
          elim (untold-at (puts folder old new) f.before f.after fault h held left f.told_before f.told_after (get held path) path
          (of-all (λ p. path ≡ p.path → (Contains (still_new fault) p.name → ⊥) × (get held path ≡ Some p.was)) (puts folder old new) each)) [
            | inl e ↦ e
            | inr e ↦ e
          ]

pub old-or-told : (m n : Content) (names : List (List ℕ)) (p : Put) → IsLeft m n names p → (get n p.path ≡ Some p.was) ⊎ Contains names p.name
old-or-told m n names p (inl e) = inl e
old-or-told m n names p (inr l) = inr l.0

pub old-new-or-held : (m n : Content) (names : List (List ℕ)) (p : Put) → IsLeft m n names p → (get n p.path ≡ Some p.was) ⊎ (get n p.path ≡ Some p.bytes) ⊎ (get n p.path ≡ get m p.path)
old-new-or-held m n names p (inl e) = inl e
old-new-or-held m n names p (inr l) = inr l.1
