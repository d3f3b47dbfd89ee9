-- What is met after strings have gone from lists.
use Rattle.meson_sources.proofs.Words.{cons_option, bytes_eq, if◌then◌else◌, option_map, ◌&&◌, ◌⊎◌, [], ap, ap₂, Bool, false, inl, inr, List, None, Option}
use Rattle.meson_sources.proofs.Words.{refl, Some, subst, suc, sym, true, zero, ℕ, ◌++◌, ◌+◌, ◌∙◌, ◌∷◌, ◌≡◌, value, string_kind, Argument, argument, Arguments}
use Rattle.meson_sources.proofs.Words.{array, call, Expression, identifier, Listing, listing, named, no_arguments, no_operands, Nowhere, operand, Operands}
use Rattle.meson_sources.proofs.Words.{pair, plain, row, string, StringKind, Numbered, rest, sources_key, child, Placed, one_of, CallRef, are_plus}
use Rattle.meson_sources.proofs.Words.{both_expanded, element, empty, expand_argument, expand_by, expand_each, expand_listing, expand_operands, Expansion}
use Rattle.meson_sources.proofs.Words.{fixed, follow_single, in_list, is_files, is_operand_by, is_single_by, Item, known, literal_item, Mark, max_followed, met}
use Rattle.meson_sources.proofs.Words.{of_variable, opaque, operand_at, or_empty, Slot, Stand, within}
use Rattle.meson_sources.proofs.gone.Losses.{child_place, place_left, Loses, OperandsLose, ListLoses, EachLoses, ArgumentLoses, files_stay, plus_stay}
use Rattle.meson_sources.proofs.gone.Losses.{operand_stays, none_known, value_stays}
use Rattle.meson_sources.proofs.gone.Places.{behind_gone, behind_left, before_all, left_before}
use Rattle.meson_sources.proofs.met.Arguments.{Expand, keyed, list_with, plains, whole, key_count}
use Rattle.meson_sources.proofs.met.Marks.{mark_contents, contents_append, contents_within, Values, list_by, lists_by, expand_with}

-- ==== What is met after strings have gone from lists: what was met, without what stood there, each item at the place to which it has moved.

abbrev pub head_by : Bool → Item Nowhere → List (Mark Nowhere) → List (Mark Nowhere)
head_by b i ms = if b then ms else known i ∷ ms

module _ (gone : CallRef → ℕ → Bool) where
  -- whether what has the slot has gone
  abbrev pub slot_gone : Slot → Bool
  slot_gone (in_list c n) = gone c n
  slot_gone fixed = false

  -- the slot of what is left
  abbrev pub slot_left : Slot → Slot
  slot_left (in_list c n) = in_list (place_left gone c) (left_before (gone c) n)
  slot_left fixed = fixed

  abbrev pub stand_left : Stand → Stand
  stand_left s = record { place = place_left gone s.place; slot = slot_left s.slot; variable = s.variable }

  abbrev pub item_left : {S : Type 0} → Item S → Item Nowhere
  item_left i = record { text = i.text; stands = tt; place = place_left gone i.place; slot = slot_left i.slot; variable = i.variable }

  -- what the marks tell without what has gone
  abbrev pub left_of : {S : Type 0} → List (Mark S) → List (Mark Nowhere)
  left_of [] = []
  left_of (known i ∷ ms) = head_by (slot_gone i.slot) (item_left i) (left_of ms)
  left_of (opaque ∷ ms) = opaque ∷ left_of ms
  left_of (empty p ∷ ms) = left_of ms

  head_append : (b : Bool) (i : Item Nowhere) (g h : List (Mark Nowhere)) → head_by b i (g ++ h) ≡ head_by b i g ++ h
  head_append true i g h = refl
  head_append false i g h = refl

  pub left_append : {S : Type 0} (xs ys : List (Mark S)) → left_of (xs ++ ys) ≡ left_of xs ++ left_of ys
  left_append [] ys = refl
  left_append (known i ∷ xs) ys =
      ap (head_by (slot_gone i.slot) (item_left i)) (left_append xs ys) ∙ head_append (slot_gone i.slot) (item_left i) (left_of xs) (left_of ys)
  left_append (opaque ∷ xs) ys = ap (λ l. opaque ∷ l) (left_append xs ys)
  left_append (empty p ∷ xs) ys = left_append xs ys

  pub left_within : {S : Type 0} (p : CallRef) (ms : List (Mark S)) → left_of (or_empty p ms) ≡ left_of ms
  left_within p [] = refl
  left_within p (m ∷ ms) = refl

  -- the one after the removal, and the one before it
  pub record Left (e now : Expansion Nowhere) : Type 0 where
    pub followed : now.followed ≡ e.followed
    pub says : mark_contents now.marks ≡ left_of e.marks

  pub nothing_left : (f g : List (List ℕ)) → g ≡ f → Left (record { marks = []; followed = f }) (record { marks = []; followed = g })
  nothing_left f g same = record { followed = same; says = refl }

  pub opaque_left : (f g : List (List ℕ)) → g ≡ f → Left (met opaque f) (met opaque g)
  opaque_left f g same = record { followed = same; says = refl }

  pub both_left : (a b c d : Expansion Nowhere) → Left a c → Left b d → Left (both_expanded a b) (both_expanded c d)
  both_left a b c d one other = record {
    followed = other.followed;
    says = contents_append c.marks d.marks ∙ ap₂ (λ g h. g ++ h) one.says other.says ∙ sym (left_append a.marks b.marks);
  }

  within_left : (p q : CallRef) (e now : Expansion Nowhere) → Left e now → Left (within p e) (within q now)
  within_left p q e now l = record { followed = l.followed; says = contents_within q now.marks ∙ l.says ∙ sym (left_within p e.marks) }

  either_left : (b z : Bool) → z ≡ b → (e now : Expansion Nowhere) (f g : List (List ℕ)) → g ≡ f → Left e now → Left (if b then e else met opaque f) (if z then now else met opaque g)
  either_left b z same e now f g equal l = subst (λ y. Left (if b then e else met opaque f) (if y then now else met opaque g)) (sym same) (go b)
    where
      go : (b : Bool) → Left (if b then e else met opaque f) (if b then now else met opaque g)
      go true = l
      go false = opaque_left f g equal

  abbrev item_at : Stand → List ℕ → Item Nowhere
  item_at s x = record { text = x; stands = tt; place = s.place; slot = s.slot; variable = s.variable }

  literal_left : (s : Stand) (f g : List (List ℕ)) → g ≡ f → slot_gone s.slot ≡ false → (o : Option (List ℕ)) → Left (literal_item tt s f o) (literal_item tt (stand_left s) g o)
  literal_left s f g same stays None = opaque_left f g same
  literal_left s f g same stays (Some x) = record { followed = same; says = ap (λ b. head_by b (item_left (item_at s x)) []) (sym stays) }

  -- a string that has gone
  pub lost_literal : (s : Stand) (f : List (List ℕ)) → slot_gone s.slot ≡ true → (o : Option (List ℕ)) (x : List ℕ) → o ≡ Some x → (more : List (List ℕ) → Expansion Nowhere) (now : Expansion Nowhere)
      → Left (more f) now → Left (both_expanded (literal_item {S = Nowhere} tt s f o) (more (literal_item {S = Nowhere} tt s f o).followed)) now
  lost_literal s f is o x is_value more now l =
      subst (λ z. Left (both_expanded (literal_item {S = Nowhere} tt s f z) (more (literal_item {S = Nowhere} tt s f z).followed)) now) (sym is_value)
      (record { followed = l.followed; says = l.says ∙ ap (λ b. head_by b (item_left (item_at s x)) (left_of (more f).marks)) (sym is) })

  -- ---- where elements and operands stand

  element_left : (s : Stand) (n m : ℕ) → m ≡ left_before (gone s.place) n → element (stand_left s) m ≡ stand_left (element s n)
  element_left s n m is =
      ap (element (stand_left s)) is
      ∙ ap (λ p. record { place = p; slot = in_list (place_left gone s.place) (left_before (gone s.place) n); variable = s.variable }) (sym (child_place gone s.place n))

  operand_left : (s : Stand) (n : ℕ) → ((k : ℕ) → gone s.place k ≡ false) → operand_at (stand_left s) n ≡ stand_left (operand_at s n)
  operand_left s n none =
      ap (operand_at (stand_left s)) (sym (before_all (gone s.place) none n))
      ∙ ap (λ p. record { place = p; slot = fixed; variable = s.variable }) (sym (child_place gone s.place n))

  module _ (holds holds2 : List ℕ → Bool) (alike : (x : List ℕ) → holds2 x ≡ holds x) (follow follow2 : List ℕ → List (List ℕ) → Expansion Nowhere)
      (follows : (x : List ℕ) (f : List (List ℕ)) → one_of f x ≡ false → Left (follow x f) (follow2 x f)) where
    abbrev many : Expression Nowhere → Bool
    many = is_operand_by holds

    abbrev many2 : Expression Nowhere → Bool
    many2 = is_operand_by holds2

    abbrev one : Expression Nowhere → Stand → List (List ℕ) → Expansion Nowhere
    one = expand_by many follow

    abbrev two : Expression Nowhere → Stand → List (List ℕ) → Expansion Nowhere
    two = expand_by many2 follow2

    variable_left : (x : List ℕ) (f g : List (List ℕ)) → g ≡ f → Left (if one_of f x then met opaque f else follow x f) (if one_of g x then met opaque g else follow2 x g)
    variable_left x f g same = subst (λ h. Left (if one_of f x then met opaque f else follow x f) (if one_of h x then met opaque h else follow2 x h)) (sym same) (go (one_of f x) refl)
      where
        go : (b : Bool) → one_of f x ≡ b → Left (if b then met opaque f else follow x f) (if b then met opaque f else follow2 x f)
        go true is = opaque_left f f refl
        go false is = follows x f is

    none_left : (now : Expression Nowhere) (t : Stand) (f g : List (List ℕ)) → g ≡ f → two now t g ≡ met opaque g → Left (met opaque f) (two now t g)
    none_left now t f g same is = subst (Left (met opaque f)) (sym is) (opaque_left f g same)

    operand_moved : (e now : Expression Nowhere) (s : Stand) (n : ℕ) (f g : List (List ℕ)) → ((k : ℕ) → gone s.place k ≡ false)
        → Left (one e (operand_at s n) f) (two now (stand_left (operand_at s n)) g) → Left (one e (operand_at s n) f) (two now (operand_at (stand_left s) n) g)
    operand_moved e now s n f g none l = subst (λ t. Left (one e (operand_at s n) f) (two now t g)) (sym (operand_left s n none)) l

    mutual
      pub expression_left : (e now : Expression Nowhere) (s : Stand) (f g : List (List ℕ)) → g ≡ f → slot_gone s.slot ≡ false → Loses gone s.place e now → Left (one e s f) (two now (stand_left s) g)
      expression_left (string r q x) now s f g same stays l = subst (λ d. Left (one (string r q x) s f) (two d (stand_left s) g)) (sym l) (literal_left s f g same stays (value (string_kind q) x))
      expression_left (identifier r x) now s f g same stays l = subst (λ d. Left (one (identifier r x) s f) (two d (stand_left s) g)) (sym l) (variable_left x f g same)
      expression_left (array l) now s f g same stays loses =
          subst (λ d. Left (one (array l) s f) (two d (stand_left s) g)) (sym loses.1) (within_left s.place (place_left gone s.place) _ _ (listing_left l loses.0 s f g same loses.2))
      expression_left (call r n l) now s f g same stays loses =
          subst (λ d. Left (one (call r n l) s f) (two d (stand_left s) g)) (sym loses.2)
          (either_left (is_files n.text l) (is_files loses.0.text loses.1) (files_stay gone s.place n.text loses.0.text l loses.1 loses.3 loses.4) _ _ f g same
          (within_left s.place (place_left gone s.place) _ _ (listing_left l loses.1 s f g same loses.4)))
      expression_left (row r e os) now s f g same stays loses =
          let first = operand_moved e loses.0 s 0 f g loses.5 (expression_left e loses.0 (operand_at s 0) f g same refl loses.3) in
          subst (λ d. Left (one (row r e os) s f) (two d (stand_left s) g)) (sym loses.2)
          (either_left (are_plus os && many e) (are_plus loses.1 && many2 loses.0) (ap₂ (λ a b. a && b) (plus_stay gone s.place 1 os loses.1 loses.4) (operand_stays gone holds holds2 alike (child s.place 0) e loses.0 loses.3)) _ _ f g same
          (both_left _ _ _ _ first (operands_left os loses.1 1 s _ _ first.followed loses.5 loses.4)))
      expression_left e now s f g same stays loses = none_left now (stand_left s) f g same (none_known gone many2 follow2 now loses (stand_left s) g)

      operands_left : (os ps : Operands Nowhere) (n : ℕ) (s : Stand) (f g : List (List ℕ)) → g ≡ f → ((k : ℕ) → gone s.place k ≡ false) → OperandsLose gone s.place n os ps
          → Left (expand_operands many follow os n s f) (expand_operands many2 follow2 ps n (stand_left s) g)
      operands_left no_operands ps n s f g same none loses =
          subst (λ z. Left (expand_operands many follow no_operands n s f) (expand_operands many2 follow2 z n (stand_left s) g)) (sym loses) (nothing_left f g same)
      operands_left (operand o e more) ps n s f g same none loses =
          let first = operand_moved e loses.0 s n f g none (expression_left e loses.0 (operand_at s n) f g same refl loses.3) in
          subst (λ z. Left (expand_operands many follow (operand o e more) n s f) (expand_operands many2 follow2 z n (stand_left s) g)) (sym loses.2)
          (both_left _ _ _ _ first (operands_left more loses.1 (n + 1) s _ _ first.followed none loses.4))

      listing_left : (l m : Listing Nowhere) (s : Stand) (f g : List (List ℕ)) → g ≡ f → ListLoses gone s.place l m → Left (expand_listing many follow l s f) (expand_listing many2 follow2 m (stand_left s) g)
      listing_left (listing r trailing xs) m s f g same loses =
          subst (λ z. Left (expand_listing many follow (listing r trailing xs) s f) (expand_listing many2 follow2 z (stand_left s) g)) (sym loses.2) (each_left xs loses.1 0 0 s f g refl same loses.3)

      each_left : (xs ys : Arguments Nowhere) (n m : ℕ) (s : Stand) (f g : List (List ℕ)) → m ≡ left_before (gone s.place) n → g ≡ f → EachLoses gone s.place n xs ys
          → Left (expand_each many follow xs n s f) (expand_each many2 follow2 ys m (stand_left s) g)
      each_left no_arguments ys n m s f g is same loses = subst (λ z. Left (expand_each many follow no_arguments n s f) (expand_each many2 follow2 z m (stand_left s) g)) (sym loses) (nothing_left f g same)
      each_left (argument a more) ys n m s f g is same (inl loses) =
          subst (λ z. Left (expand_each many follow (argument z more) n s f) (expand_each many2 follow2 ys m (stand_left s) g)) (sym loses.1.is_string)
          (lost_literal (element s n) f loses.0 (value (string_kind loses.1.kind) loses.1.word) loses.1.text loses.1.is_value (λ now. expand_each many follow more (n + 1) s now) (expand_each many2 follow2 ys m (stand_left s) g)
          (each_left more ys (n + 1) m s f g (is ∙ sym (behind_gone (gone s.place) n loses.0)) same loses.2))
      each_left (argument a more) ys n m s f g is same (inr loses) =
          let first = subst (λ t. Left (expand_argument many follow a (element s n) f) (expand_argument many2 follow2 loses.1 t g)) (sym (element_left s n m is)) (argument_left a loses.1 (element s n) f g same loses.0 loses.4) in
          subst (λ z. Left (expand_each many follow (argument a more) n s f) (expand_each many2 follow2 z m (stand_left s) g)) (sym loses.3)
          (both_left _ _ _ _ first (each_left more loses.2 (n + 1) (m + 1) s _ _ (ap (λ i. i + 1) is ∙ sym (behind_left (gone s.place) n loses.0)) first.followed loses.5))

      argument_left : (a b : Argument Nowhere) (s : Stand) (f g : List (List ℕ)) → g ≡ f → slot_gone s.slot ≡ false → ArgumentLoses gone s.place a b
          → Left (expand_argument many follow a s f) (expand_argument many2 follow2 b (stand_left s) g)
      argument_left (plain e) b s f g same stays loses = subst (λ z. Left (one e s f) (expand_argument many2 follow2 z (stand_left s) g)) (sym loses.1) (expression_left e loses.0 s f g same stays loses.2)
      argument_left (named r x e) b s f g same stays loses = subst (λ z. Left (met opaque f) (expand_argument many2 follow2 z (stand_left s) g)) (sym loses.2) (opaque_left f g same)
      argument_left (pair r e d) b s f g same stays loses = subst (λ z. Left (met opaque f) (expand_argument many2 follow2 z (stand_left s) g)) (sym loses.2) (opaque_left f g same)

-- ==== The arguments of a call that hold sources after strings have gone from lists, that of the call among them.

module _ (gone : CallRef → ℕ → Bool) where
  -- the first argument without a name stays
  abbrev pub FirstStays : CallRef → ℕ → Arguments Nowhere → Type 0
  FirstStays c k no_arguments = Unit {0}
  FirstStays c k (argument (plain e) more) = gone c k ≡ false
  FirstStays c k (argument (named t x e) more) = FirstStays c (k + 1) more
  FirstStays c k (argument (pair t e f) more) = FirstStays c (k + 1) more

  -- as many arguments have a key
  pub keys_stay : (key : List ℕ) (c : CallRef) (k : ℕ) (xs ys : Arguments Nowhere) → EachLoses gone c k xs ys → key_count key ys ≡ key_count key xs
  keys_stay key c k no_arguments ys l = ap (key_count key) l
  keys_stay key c k (argument a more) ys (inl l) = keys_stay key c (k + 1) more ys l.2 ∙ ap (λ b. key_count key (argument b more)) (sym l.1.is_string)
  keys_stay key c k (argument (plain e) more) ys (inr l) = ap (key_count key) l.3 ∙ ap (λ b. key_count key (argument b l.2)) l.4.1 ∙ keys_stay key c (k + 1) more l.2 l.5
  keys_stay key c k (argument (named t x e) more) ys (inr l) =
      ap (key_count key) l.3 ∙ ap (λ b. key_count key (argument b l.2)) l.4.2 ∙ ap₂ (λ y n. if bytes_eq y key then suc n else n) l.4.3 (keys_stay key c (k + 1) more l.2 l.5)
  keys_stay key c k (argument (pair t e f) more) ys (inr l) = ap (key_count key) l.3 ∙ ap (λ b. key_count key (argument b l.2)) l.4.2 ∙ keys_stay key c (k + 1) more l.2 l.5

  module _ (one two : Expand) (literals : (q : StringKind) (x : List ℕ) (s : Stand) (f : List (List ℕ)) → one (string tt q x) s f ≡ literal_item tt s f (value (string_kind q) x))
      (each : (e now : Expression Nowhere) (s : Stand) (f g : List (List ℕ)) → g ≡ f → slot_gone gone s.slot ≡ false → Loses gone s.place e now → Left gone (one e s f) (two now (stand_left gone s) g)) (c : CallRef) where
    -- where the call stands then
    abbrev d : CallRef
    d = place_left gone c

    -- the number of an argument then
    abbrev IsNumber : ℕ → ℕ → Type 0
    IsNumber k m = m ≡ left_before (gone c) k

    next_gone : (k m : ℕ) → IsNumber k m → gone c k ≡ true → IsNumber (k + 1) m
    next_gone k m is has_gone = is ∙ sym (behind_gone (gone c) k has_gone)

    next_left : (k m : ℕ) → IsNumber k m → gone c k ≡ false → IsNumber (k + 1) (m + 1)
    next_left k m is stays = ap (λ n. n + 1) is ∙ sym (behind_left (gone c) k stays)

    argument_place : (k m : ℕ) → IsNumber k m → place_left gone (child c k) ≡ child d m
    argument_place k m is = child_place gone c k ∙ ap (child d) (sym is)

    abbrev PlainsLeft : List (Numbered (Expression Nowhere)) → List (Numbered (Expression Nowhere)) → Type 0
    PlainsLeft us vs = (f g : List (List ℕ)) → g ≡ f → Left gone (list_with one c (in_list c) us f) (list_with two d (in_list d) vs g)

    abbrev KeysLeft : List (Numbered (Expression Nowhere)) → List (Numbered (Expression Nowhere)) → Type 0
    KeysLeft us vs = (f g : List (List ℕ)) → g ≡ f → Left gone (list_with one c (λ n. fixed) us f) (list_with two d (λ n. fixed) vs g)

    -- an argument without a name that stays
    plain_stays : (e now : Expression Nowhere) (k m : ℕ) → IsNumber k m → gone c k ≡ false → Loses gone (child c k) e now → (f g : List (List ℕ)) → g ≡ f
        → Left gone (one e (record { place = child c k; slot = in_list c k; variable = None }) f) (two now (record { place = child d m; slot = in_list d m; variable = None }) g)
    plain_stays e now k m is stays l f g same =
        subst (λ (s : Stand). Left gone (one e (record { place = child c k; slot = in_list c k; variable = None }) f) (two now s g))
        (ap₂ (λ p n. record { place = p; slot = in_list d n; variable = None }) (argument_place k m is) (sym is))
        (each e now (record { place = child c k; slot = in_list c k; variable = None }) f g same stays l)

    -- a string of the call's own list that has gone
    plain_lost : (q : StringKind) (x text : List ℕ) → value (string_kind q) x ≡ Some text → (k : ℕ) → gone c k ≡ true → (us vs : List (Numbered (Expression Nowhere))) → PlainsLeft us vs → PlainsLeft (record { number = k; value = string tt q x } ∷ us) vs
    plain_lost q x text is_value k is us vs more f g same =
        let s : Stand = record { place = child c k; slot = in_list c k; variable = None } in
        subst (λ (z : Expansion Nowhere). Left gone (both_expanded z (list_with one c (in_list c) us z.followed)) (list_with two d (in_list d) vs g)) (sym (literals q x s f))
        (lost_literal gone s f is (value (string_kind q) x) text is_value (λ now. list_with one c (in_list c) us now) (list_with two d (in_list d) vs g) (more f g same))

    plains_left : (xs ys : Arguments Nowhere) (k m : ℕ) → IsNumber k m → EachLoses gone c k xs ys → PlainsLeft (plains k xs) (plains m ys)
    plains_left no_arguments ys k m is l = subst (λ z. PlainsLeft [] (plains m z)) (sym l) (λ f g same. nothing_left gone f g same)
    plains_left (argument a more) ys k m is (inl l) =
        subst (λ z. PlainsLeft (plains k (argument z more)) (plains m ys)) (sym l.1.is_string)
        (plain_lost l.1.kind l.1.word l.1.text l.1.is_value k l.0 (plains (k + 1) more) (plains m ys) (plains_left more ys (k + 1) m (next_gone k m is l.0) l.2))
    plains_left (argument (plain e) more) ys k m is (inr l) =
        subst (λ z. PlainsLeft (plains k (argument (plain e) more)) (plains m z)) (sym (l.3 ∙ ap (λ b. argument b l.2) l.4.1)) (λ f g same.
        let o = plain_stays e l.4.0 k m is l.0 l.4.2 f g same in
        both_left gone _ _ _ _ o (plains_left more l.2 (k + 1) (m + 1) (next_left k m is l.0) l.5 _ _ o.followed))
    plains_left (argument (named t x e) more) ys k m is (inr l) =
        subst (λ z. PlainsLeft (plains (k + 1) more) (plains m z)) (sym (l.3 ∙ ap (λ b. argument b l.2) l.4.2)) (plains_left more l.2 (k + 1) (m + 1) (next_left k m is l.0) l.5)
    plains_left (argument (pair t e v) more) ys k m is (inr l) =
        subst (λ z. PlainsLeft (plains (k + 1) more) (plains m z)) (sym (l.3 ∙ ap (λ b. argument b l.2) l.4.2)) (plains_left more l.2 (k + 1) (m + 1) (next_left k m is l.0) l.5)

    rest_left : (xs ys : Arguments Nowhere) (k m : ℕ) → IsNumber k m → FirstStays c k xs → EachLoses gone c k xs ys → PlainsLeft (rest (plains k xs)) (rest (plains m ys))
    rest_left no_arguments ys k m is first l = subst (λ z. PlainsLeft [] (rest (plains m z))) (sym l) (λ f g same. nothing_left gone f g same)
    rest_left (argument a more) ys k m is first (inl l) =
        let stays = subst (λ z. FirstStays c k (argument z more)) l.1.is_string first in
        let both : true ≡ false = sym l.0 ∙ stays in absurd cc
    rest_left (argument (plain e) more) ys k m is first (inr l) =
        subst (λ z. PlainsLeft (plains (k + 1) more) (rest (plains m z))) (sym (l.3 ∙ ap (λ b. argument b l.2) l.4.1)) (plains_left more l.2 (k + 1) (m + 1) (next_left k m is l.0) l.5)
    rest_left (argument (named t x e) more) ys k m is first (inr l) =
        subst (λ z. PlainsLeft (rest (plains (k + 1) more)) (rest (plains m z))) (sym (l.3 ∙ ap (λ b. argument b l.2) l.4.2)) (rest_left more l.2 (k + 1) (m + 1) (next_left k m is l.0) first l.5)
    rest_left (argument (pair t e v) more) ys k m is first (inr l) =
        subst (λ z. PlainsLeft (rest (plains (k + 1) more)) (rest (plains m z))) (sym (l.3 ∙ ap (λ b. argument b l.2) l.4.2)) (rest_left more l.2 (k + 1) (m + 1) (next_left k m is l.0) first l.5)

    -- with one more argument of the key, or without
    abbrev with_key : Bool → ℕ → Expression Nowhere → List (Numbered (Expression Nowhere)) → List (Numbered (Expression Nowhere))
    with_key z k e more = cons_option (option_map (λ y. record { number = k; value = y }) (if z then Some e else None)) more

    key_left : (z : Bool) (e now : Expression Nowhere) (k m : ℕ) (us vs : List (Numbered (Expression Nowhere))) → IsNumber k m → Loses gone (child c k) e now → KeysLeft us vs → KeysLeft (with_key z k e us) (with_key z m now vs)
    key_left true e now k m us vs is l more f g same =
        let s : Stand = record { place = child c k; slot = fixed; variable = None } in
        let o = subst (λ p. Left gone (one e s f) (two now (record { place = p; slot = fixed; variable = None }) g)) (argument_place k m is) (each e now s f g same refl l) in
        both_left gone _ _ _ _ o (more _ _ o.followed)
    key_left false e now k m us vs is l more f g same = more f g same

    pub keyed_left : (key : List ℕ) (xs ys : Arguments Nowhere) (k m : ℕ) → IsNumber k m → EachLoses gone c k xs ys → KeysLeft (keyed key k xs) (keyed key m ys)
    keyed_left key no_arguments ys k m is l = subst (λ z. KeysLeft [] (keyed key m z)) (sym l) (λ f g same. nothing_left gone f g same)
    keyed_left key (argument a more) ys k m is (inl l) = subst (λ z. KeysLeft (keyed key k (argument z more)) (keyed key m ys)) (sym l.1.is_string) (keyed_left key more ys (k + 1) m (next_gone k m is l.0) l.2)
    keyed_left key (argument (plain e) more) ys k m is (inr l) = subst (λ z. KeysLeft (keyed key (k + 1) more) (keyed key m z)) (sym (l.3 ∙ ap (λ b. argument b l.2) l.4.1)) (keyed_left key more l.2 (k + 1) (m + 1) (next_left k m is l.0) l.5)
    keyed_left key (argument (named t x e) more) ys k m is (inr l) =
        subst (λ z. KeysLeft (keyed key k (argument (named t x e) more)) (keyed key m z)) (sym (l.3 ∙ ap (λ b. argument b l.2) l.4.2))
        (subst (λ y. KeysLeft (with_key (bytes_eq x.text key) k e (keyed key (k + 1) more)) (with_key (bytes_eq y key) m l.4.1 (keyed key (m + 1) l.2))) (sym l.4.3)
        (key_left (bytes_eq x.text key) e l.4.1 k m (keyed key (k + 1) more) (keyed key (m + 1) l.2) is l.4.4 (keyed_left key more l.2 (k + 1) (m + 1) (next_left k m is l.0) l.5)))
    keyed_left key (argument (pair t e v) more) ys k m is (inr l) = subst (λ z. KeysLeft (keyed key (k + 1) more) (keyed key m z)) (sym (l.3 ∙ ap (λ b. argument b l.2) l.4.2)) (keyed_left key more l.2 (k + 1) (m + 1) (next_left k m is l.0) l.5)

    pub whole_left : (xs ys : Arguments Nowhere) → FirstStays c 0 xs → EachLoses gone c 0 xs ys → (f g : List (List ℕ)) → g ≡ f → Left gone (whole one c xs f) (whole two d ys g)
    whole_left xs ys first l f g same =
        let o = rest_left xs ys 0 0 refl first l f g same in
        both_left gone _ _ _ _ o (keyed_left sources_key xs ys 0 0 refl l _ _ o.followed)

-- ==== What is met behind variables after strings have gone from lists.

-- A variable stands for nothing in both, or for an expression and what is left of it.
pub record BothStand (gone : CallRef → ℕ → Bool) (values values2 : Values) (x : List ℕ) : Type 0 where
  pub value : Placed (Expression Nowhere)
  pub now : Placed (Expression Nowhere)
  pub was : values x ≡ Some value
  pub is : values2 x ≡ Some now
  pub moved : now.place ≡ place_left gone value.place
  pub loses : Loses gone value.place value.it now.it

abbrev pub ValueLoses : (CallRef → ℕ → Bool) → Values → Values → List ℕ → Type 0
ValueLoses gone values values2 x = ((values x ≡ None) × (values2 x ≡ None)) ⊎ BothStand gone values values2 x

module _ (gone : CallRef → ℕ → Bool) (values values2 : Values) (lose : (x : List ℕ) → ValueLoses gone values values2 x) where
  list_stays : (left : ℕ) (x : List ℕ) → list_by values2 left x ≡ list_by values left x
  list_stays zero x = refl
  list_stays (suc left) x = go (list_stays left) (lose x)
    where
      go : ((y : List ℕ) → list_by values2 left y ≡ list_by values left y) → ValueLoses gone values values2 x
          → is_single_by (is_operand_by (list_by values2 left)) (values2 x) ≡ is_single_by (is_operand_by (list_by values left)) (values x)
      go rest (inl none) = ap (is_single_by (is_operand_by (list_by values2 left))) none.1 ∙ sym (ap (is_single_by (is_operand_by (list_by values left))) none.0)
      go rest (inr both) =
          ap (is_single_by (is_operand_by (list_by values2 left))) both.is
          ∙ value_stays gone (list_by values left) (list_by values2 left) rest both.value.place both.value.it both.now.it both.loses
          ∙ sym (ap (is_single_by (is_operand_by (list_by values left))) both.was)

  abbrev EachLeft : ℕ → Type 0
  EachLeft left = (e now : Expression Nowhere) (s : Stand) (f g : List (List ℕ)) → g ≡ f → slot_gone gone s.slot ≡ false → Loses gone s.place e now
      → Left gone (expand_with values left e s f) (expand_with values2 left now (stand_left gone s) g)

  followed_left : (left : ℕ) → EachLeft left → (x : List ℕ) (f : List (List ℕ)) → Left gone (follow_single (expand_with values left) x f (values x)) (follow_single (expand_with values2 left) x f (values2 x))
  followed_left left each x f = go (lose x)
    where
      go : ValueLoses gone values values2 x → Left gone (follow_single (expand_with values left) x f (values x)) (follow_single (expand_with values2 left) x f (values2 x))
      go (inl none) =
          subst (λ o. Left gone (follow_single (expand_with values left) x f o) (follow_single (expand_with values2 left) x f (values2 x))) (sym none.0)
          (subst (λ o. Left gone (met opaque f) (follow_single (expand_with values2 left) x f o)) (sym none.1) (opaque_left gone f f refl))
      go (inr both) =
          subst (λ o. Left gone (follow_single (expand_with values left) x f o) (follow_single (expand_with values2 left) x f (values2 x))) (sym both.was)
          (subst (λ o. Left gone (expand_with values left both.value.it (of_variable x both.value.place) (x ∷ f)) (follow_single (expand_with values2 left) x f o)) (sym both.is)
          (subst (λ p. Left gone (expand_with values left both.value.it (of_variable x both.value.place) (x ∷ f)) (expand_with values2 left both.now.it (of_variable x p) (x ∷ f))) (sym both.moved)
          (each both.value.it both.now.it (of_variable x both.value.place) (x ∷ f) (x ∷ f) refl refl both.loses)))

  -- so many variables may be followed inside one another
  pub expand_left : (left : ℕ) → EachLeft left
  unfolding lists_by
  expand_left zero =
      expression_left gone (list_by values max_followed) (list_by values2 max_followed) (list_stays max_followed) (λ x f. met opaque f) (λ x f. met opaque f) (λ x f not_yet. opaque_left gone f f refl)
  expand_left (suc left) =
      expression_left gone (list_by values max_followed) (list_by values2 max_followed) (list_stays max_followed)
      (λ x f. follow_single (expand_with values left) x f (values x)) (λ x f. follow_single (expand_with values2 left) x f (values2 x)) (λ x f not_yet. followed_left left (expand_left left) x f)
