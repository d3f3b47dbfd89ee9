-- Where a string of a list becomes another one, the strings of all lists stay strings.
use Rattle.meson_sources.proofs.Words.{nat_eq, option_and_then, option_map, [], ap, Bool, false, List, None, Option, refl, Some, subst, suc, sym, true, zero, ℕ, ◌∙◌}
use Rattle.meson_sources.proofs.Words.{◌∷◌, ◌≡◌, eqb-true, eq-eqb, a_block, a_statement, an_expression, arguments_parts, listing_parts, block_of, nth, Argument, argument}
use Rattle.meson_sources.proofs.Words.{argument_list, Arguments, arguments_of, array, call, dictionary, evaluate, Expression, Listing, listing, named, no_arguments, Nowhere, pair}
use Rattle.meson_sources.proofs.Words.{Plain, plain, string, StringKind, child_nodes, node_at, list-of-arguments, some-injective, map-some, elements, changed_there}
use Rattle.meson_sources.proofs.Words.{slice_set, Spot, Differ, differ_new, differ_old, differ_other}
use Rattle.meson_sources.proofs.met.Standing.{StringIn}
use Rattle.meson_sources.proofs.trees.Elements.{IsStringElement, Node, at_stands, element_any, element_at, list_any, list_parts, root, stands_at}
use Rattle.meson_sources.proofs.trees.Shapes.{Becomes, differ_here, differ_none, differ_there}
use Rattle.meson_sources.proofs.trees.Skeletons.{Skeleton, a_list, blanks, list_blanks, same_arguments, skeleton}

-- a node that is a string, and an element that is one
abbrev IsString : Node → Type 0
IsString x = (q : StringKind) × (t : List ℕ) × (x ≡ an_expression (string tt q t))

abbrev HasString : Option (Argument Nowhere) → Type 0
HasString o = (q : StringKind) × (t : List ℕ) × (o ≡ Some (plain (string tt q t)))

-- ---- the elements of a list of which one part becomes another one

module _ (y next : Node) (strings : IsString y → IsString next) where
  first_string : (e f : Expression Nowhere) → an_expression e ≡ y → an_expression f ≡ next → HasString (Some (plain e)) → HasString (Some (plain f))
  first_string e f is_old is_new (q, t, is) =
      let string_e : an_expression e ≡ an_expression (string tt q t) = cc in
      let s = strings (q, t, sym is_old ∙ string_e) in
      let same = is_new ∙ s.2 in
      let value : f ≡ string tt s.0 s.1 = cc in
      (s.0, s.1, ap (λ v. Some (plain v)) value)

  strings_stay : (xs zs : Arguments Nowhere) → blanks zs ≡ blanks xs → (k : ℕ) → Differ y next k (arguments_parts xs) (arguments_parts zs) → (n : ℕ) → HasString (nth (argument_list xs) n) → HasString (nth (argument_list zs) n)
  strings_stay no_arguments zs same k d n (q, t, is) = absurd cc
  strings_stay (argument a more) no_arguments same k d n h = absurd cc
  strings_stay (argument (plain e) more) (argument (named s x f) others) same k d n h = absurd cc
  strings_stay (argument (plain e) more) (argument (pair s f g) others) same k d n h = absurd cc
  strings_stay (argument (named s x e) more) (argument (plain f) others) same k d n h = absurd cc
  strings_stay (argument (named s x e) more) (argument (pair r f g) others) same k d n h = absurd cc
  strings_stay (argument (pair s e f) more) (argument (plain g) others) same k d n h = absurd cc
  strings_stay (argument (pair s e f) more) (argument (named r x g) others) same k d n h = absurd cc
  strings_stay (argument (plain e) more) (argument (plain f) others) same zero d n h =
      let p = differ_here y next (an_expression e) (an_expression f) (arguments_parts more) (arguments_parts others) d in
      let tails : blanks others ≡ blanks more = cc in
      go n (same_arguments more others tails p.2) p.0 p.1 h
    where
      go : (n : ℕ) → others ≡ more → an_expression e ≡ y → an_expression f ≡ next → HasString (nth (argument_list (argument (plain e) more)) n) → HasString (nth (argument_list (argument (plain f) others)) n)
      go zero alike a b g = first_string e f a b g
      go (suc n) alike a b g = subst (λ l. HasString (nth (argument_list l) n)) (sym alike) g
  strings_stay (argument (plain e) more) (argument (plain f) others) same (suc k) d n h =
      let p = differ_there y next k (an_expression e) (an_expression f) (arguments_parts more) (arguments_parts others) d in
      let tails : blanks others ≡ blanks more = cc in
      go n p.0 (strings_stay more others tails k p.1) h
    where
      go : (n : ℕ) → an_expression e ≡ an_expression f → ((m : ℕ) → HasString (nth (argument_list more) m) → HasString (nth (argument_list others) m)) → HasString (nth (argument_list (argument (plain e) more)) n)
          → HasString (nth (argument_list (argument (plain f) others)) n)
      go zero alike later g = let value : e ≡ f = cc in subst (λ v. HasString (Some (plain v))) value g
      go (suc n) alike later g = later n g
  strings_stay (argument (named s x e) more) (argument (named r z f) others) same zero d n h =
      let p = differ_here y next (an_expression e) (an_expression f) (arguments_parts more) (arguments_parts others) d in
      let tails : blanks others ≡ blanks more = cc in
      go n (same_arguments more others tails p.2) h
    where
      go : (n : ℕ) → others ≡ more → HasString (nth (argument_list (argument (named s x e) more)) n) → HasString (nth (argument_list (argument (named r z f) others)) n)
      go zero alike (q, t, is) = absurd cc
      go (suc n) alike g = subst (λ l. HasString (nth (argument_list l) n)) (sym alike) g
  strings_stay (argument (named s x e) more) (argument (named r z f) others) same (suc k) d n h =
      let p = differ_there y next k (an_expression e) (an_expression f) (arguments_parts more) (arguments_parts others) d in
      let tails : blanks others ≡ blanks more = cc in
      go n (strings_stay more others tails k p.1) h
    where
      go : (n : ℕ) → ((m : ℕ) → HasString (nth (argument_list more) m) → HasString (nth (argument_list others) m)) → HasString (nth (argument_list (argument (named s x e) more)) n)
          → HasString (nth (argument_list (argument (named r z f) others)) n)
      go zero later (q, t, is) = absurd cc
      go (suc n) later g = later n g
  strings_stay (argument (pair s e f) more) (argument (pair r a b) others) same zero d n h =
      let p = differ_here y next (an_expression e) (an_expression a) (an_expression f ∷ arguments_parts more) (an_expression b ∷ arguments_parts others) d in
      let parts : arguments_parts more ≡ arguments_parts others = let l = p.2 in cc in
      let tails : blanks others ≡ blanks more = cc in
      go n (same_arguments more others tails parts) h
    where
      go : (n : ℕ) → others ≡ more → HasString (nth (argument_list (argument (pair s e f) more)) n) → HasString (nth (argument_list (argument (pair r a b) others)) n)
      go zero alike (q, t, is) = absurd cc
      go (suc n) alike g = subst (λ l. HasString (nth (argument_list l) n)) (sym alike) g
  strings_stay (argument (pair s e f) more) (argument (pair r a b) others) same (suc zero) d n h =
      let p = differ_there y next zero (an_expression e) (an_expression a) (an_expression f ∷ arguments_parts more) (an_expression b ∷ arguments_parts others) d in
      let o = differ_here y next (an_expression f) (an_expression b) (arguments_parts more) (arguments_parts others) p.1 in
      let tails : blanks others ≡ blanks more = cc in
      go n (same_arguments more others tails o.2) h
    where
      go : (n : ℕ) → others ≡ more → HasString (nth (argument_list (argument (pair s e f) more)) n) → HasString (nth (argument_list (argument (pair r a b) others)) n)
      go zero alike (q, t, is) = absurd cc
      go (suc n) alike g = subst (λ l. HasString (nth (argument_list l) n)) (sym alike) g
  strings_stay (argument (pair s e f) more) (argument (pair r a b) others) same (suc (suc k)) d n h =
      let p = differ_there y next (suc k) (an_expression e) (an_expression a) (an_expression f ∷ arguments_parts more) (an_expression b ∷ arguments_parts others) d in
      let o = differ_there y next k (an_expression f) (an_expression b) (arguments_parts more) (arguments_parts others) p.1 in
      let tails : blanks others ≡ blanks more = cc in
      go n (strings_stay more others tails k o.1) h
    where
      go : (n : ℕ) → ((m : ℕ) → HasString (nth (argument_list more) m) → HasString (nth (argument_list others) m)) → HasString (nth (argument_list (argument (pair s e f) more)) n)
          → HasString (nth (argument_list (argument (pair r a b) others)) n)
      go zero later (q, t, is) = absurd cc
      go (suc n) later g = later n g

  -- ---- a node with a list

  in_lists : (l m : Listing Nowhere) → list_blanks m ≡ list_blanks l → (k : ℕ) → Differ y next k (arguments_parts (arguments_of (elements l))) (arguments_parts (arguments_of (elements m))) → (n : ℕ) → HasString (nth (elements l) n) → HasString (nth (elements m) n)
  in_lists (listing s a xs) (listing r b zs) same k d n h =
      strings_stay xs zs same k (subst (λ us. Differ y next k (arguments_parts us) (arguments_parts zs)) (list-of-arguments xs) (subst (λ us. Differ y next k (arguments_parts (arguments_of (argument_list xs))) (arguments_parts us)) (list-of-arguments zs) d)) n h

-- the blanks of a list
abbrev seen : Skeleton → Option (List (Argument Nowhere))
seen (a_list kind c bs) = Some bs
seen _ = None

blanks_seen : (x : Node) → option_map list_blanks (list_any x) ≡ seen (skeleton x)
blanks_seen (an_expression (array l)) = refl
blanks_seen (an_expression (dictionary l)) = refl
blanks_seen (an_expression (call s x l)) = refl
blanks_seen (an_expression e) = refl
blanks_seen (a_statement (evaluate e)) = refl
blanks_seen (a_statement s) = refl
blanks_seen (a_block b) = refl

element_found : (o : Option (Listing Nowhere)) (n : ℕ) → HasString (option_and_then (λ l. nth (elements l) n) o) → (l : Listing Nowhere) × (o ≡ Some l) × HasString (nth (elements l) n)
element_found None n (q, t, is) = absurd cc
element_found (Some l) n h = (l, refl, h)

node_strings : (y next x now : Node) → (IsString y → IsString next) → skeleton now ≡ skeleton x → (k : ℕ) → Differ y next k (child_nodes x) (child_nodes now) → (n : ℕ) → HasString (element_any x n) → HasString (element_any now n)
node_strings y next x now strings same k d n h =
    let f = element_found (list_any x) n h in
    let l = f.0 in
    let there : option_map list_blanks (list_any now) ≡ Some (list_blanks l) = blanks_seen now ∙ ap seen same ∙ sym (blanks_seen x) ∙ ap (option_map list_blanks) f.1 in
    let m = map-some list_blanks (list_any now) (list_blanks l) there in
    let parts = subst (λ xs. Differ y next k xs (arguments_parts (arguments_of (elements m.0)))) (list_parts x l f.1) (subst (λ zs. Differ y next k (child_nodes x) zs) (list_parts now m.0 m.1) d) in
    subst (λ o. HasString (option_and_then (λ l. nth (elements l) n) o)) (sym m.1) (in_lists y next strings l m.0 m.2 k parts n f.2)

-- ---- along the path to the string

module _ (q r : StringKind) (text word : List ℕ) where
  abbrev old : Node
  old = an_expression (string tt q text)

  abbrev new : Node
  new = an_expression (string tt r word)

  string_there : (path : List ℕ) (y next : Node) → Becomes old new path y next → IsString y → IsString next
  string_there [] y next b is = (r, word, b.1)
  string_there (n ∷ path) y next b (k, t, is) = absurd (differ_none b.0 b.1 n (child_nodes next) (subst (λ z. Differ b.0 b.1 n (child_nodes z) (child_nodes next)) is b.2.parts))

  none_within : (path : List ℕ) (n : ℕ) → HasString (element_at old path n) → ⊥
  none_within [] n (k, t, is) = absurd cc
  none_within (m ∷ path) n (k, t, is) = absurd cc

  pub stays_string : (hp path : List ℕ) (x now : Node) → Becomes old new hp x now → (n : ℕ) → HasString (element_at x path n) → HasString (element_at now path n)
  stays_string [] path x now b n h = absurd (none_within path n (subst (λ z. HasString (element_at z path n)) b.0 h))
  stays_string (k ∷ hp) [] x now b n h = node_strings b.0 b.1 x now (string_there hp b.0 b.1 b.3) b.2.skeletons k b.2.parts n h
  stays_string (k ∷ hp) (m ∷ path) x now b n h = go (nat_eq k m) refl (stays_string hp path b.0 b.1 b.3 n)
    where
      go : (z : Bool) → nat_eq k m ≡ z → (HasString (element_at b.0 path n) → HasString (element_at b.1 path n)) → HasString (element_at now (m ∷ path) n)
      go true is later =
          let same = eqb-true k m is in
          let was : HasString (element_at b.0 path n) = subst (λ o. HasString (option_and_then (λ z. element_any z n) (option_and_then (λ z. node_at z path) o))) (ap (nth (child_nodes x)) (sym same) ∙ differ_old b.0 b.1 b.2.parts) h in
          subst (λ o. HasString (option_and_then (λ z. element_any z n) (option_and_then (λ z. node_at z path) o))) (sym (ap (nth (child_nodes now)) (sym same) ∙ differ_new b.0 b.1 b.2.parts)) (later was)
      go false is later =
          let other : k ≡ m → ⊥ = λ equal. let both : true ≡ false = sym (eq-eqb k m equal) ∙ is in absurd cc in
          subst (λ o. HasString (option_and_then (λ z. element_any z n) (option_and_then (λ z. node_at z path) o))) (sym (differ_other b.0 b.1 b.2.parts m other)) h

-- ---- in the trees of a project

others_there : {X : Type 0} (xs : List X) (i : ℕ) (y : X) (j : ℕ) → (i ≡ j → ⊥) → nth (slice_set xs i y) j ≡ nth xs j
others_there [] i y j other = refl
others_there (x ∷ xs) zero y zero other = absurd (other refl)
others_there (x ∷ xs) zero y (suc j) other = refl
others_there (x ∷ xs) (suc i) y zero other = refl
others_there (x ∷ xs) (suc i) y (suc j) other = others_there xs i y j (λ equal. other (ap suc equal))

pub string_stays : (trees : List Plain) (i : ℕ) (t now : Plain) → nth trees i ≡ Some t → (q r : StringKind) (text word hp : List ℕ)
    → Becomes (an_expression (string tt q text)) (an_expression (string tt r word)) hp (root t) (root now) → (s : Spot) → StringIn trees s → StringIn (slice_set trees i now) s
string_stays trees i t now there q r text word hp becomes s h = go (nat_eq i s.list.file) refl
  where
    path : List ℕ
    path = s.list.path.steps

    go : (z : Bool) → nat_eq i s.list.file ≡ z → StringIn (slice_set trees i now) s
    go true is =
        let same = eqb-true i s.list.file is in
        let tree : h.tree ≡ t = some-injective _ _ (sym h.is_tree ∙ ap (nth trees) (sym same) ∙ there) in
        let was = stands_at h.tree s.list.path.steps s.number h.it h.stands ∙ ap Some h.is_string.is in
        let o = stays_string q r text word hp s.list.path.steps (root t) (root now) becomes s.number (subst (λ u. HasString (element_at (root u) s.list.path.steps s.number)) tree (h.is_string.kind, h.is_string.text, was)) in
        record {
          tree = now;
          is_tree = ap (nth (slice_set trees i now)) (sym same) ∙ changed_there trees i t now there;
          it = plain (string tt o.0 o.1);
          stands = at_stands now s.list.path.steps s.number (plain (string tt o.0 o.1)) o.2;
          is_string = record { kind = o.0; text = o.1; is = refl };
        }
    go false is =
        let other : i ≡ s.list.file → ⊥ = λ equal. let both : true ≡ false = sym (eq-eqb i s.list.file equal) ∙ is in absurd cc in
        record { tree = h.tree; is_tree = others_there trees i now s.list.file other ∙ h.is_tree; it = h.it; stands = h.stands; is_string = h.is_string }
