-- Expressions in whose words nothing matters to a variable: no call in them sets it or leaves a file, and they do not read it.
use Rattle.std.proofs.Common.{◌≡◌, ℕ, List, [], ◌∷◌, ◌++◌, length, take, drop, take-append-drop, refl, sym, ap, ap₂, subst, ◌∙◌}
use Rattle.std.specs.Prelude.{Bool, true, false, ◌&&◌, ◌||◌, bytes_eq, codes, if◌then◌else◌, nat_eq, Some, None}
use Rattle.std.specs.List.{cons_option, filter_map, starts_with}
use Rattle.std.proofs.lemmas.List.{append_assoc, append-nil}
use Rattle.std.proofs.lemmas.Slice.Eq.{bytes_eq-Decides}
use Rattle.std.proofs.Math.Bool.{and-false}
use Rattle.meson_lex.specs.declared.kinds.Kind.TheVariants as k
use Rattle.meson_lex.specs.declared.kinds.Span.{Span}
use Rattle.meson_syntax.specs.Children.{Any, an_expression}
use Rattle.meson_syntax.specs.inside.Children.{child_nodes}
use Rattle.meson_syntax.specs.Paths.{nth}
use Rattle.meson_syntax.specs.Grammar.{argument_words, arguments_words, comma_words, expression_words, listing_words, mark, operands_words, operator_words, tail_words, tails_words}
use Rattle.meson_syntax.specs.Operators.{closes}
use Rattle.meson_syntax.specs.declared.operator.Bracket.{Bracket}
use Rattle.meson_syntax.specs.declared.operator.Bracket.TheVariants as bracket
use Rattle.meson_syntax.specs.Tree.{Expression, identifier, boolean, integer, string, paren, array, dictionary, call, unary, row, postfix, conditional, Operands, no_operands, operand, Tail, method, index, Tails, no_tails, tail, Listing, listing, Argument, plain, named, pair, Arguments, no_arguments, argument}
use Rattle.meson_syntax.proofs.paths.Every.{Every, every-append}
use Rattle.meson_calls.specs.declared.call.CallRef.{CallRef}
use Rattle.meson_calls.specs.Calls.{Call}
use Rattle.meson_calls.specs.Parts.{Part, parts_of_expression}
use Rattle.meson_calls.specs.Parts as part
use Rattle.meson_calls.specs.Project.{Placed, placed}
use Rattle.meson_calls.specs.Roles.{one_of}
use Rattle.meson_calls.proofs.nodes.ChildWords.{child_words, words_of}
use Rattle.meson_calls.proofs.nodes.EachPart.{each_part}
use Rattle.meson_calls.proofs.nodes.PartsBelow.{any}
use Rattle.meson_following.specs.Effects.{any_leaves_file, any_may_set, calls_of, calls_of_argument, calls_of_arguments, calls_of_listing, calls_of_operands, calls_of_tail, calls_of_tails, setting_functions}
use Rattle.meson_following.specs.Names.{fits, named_by}
use Rattle.meson_following.specs.Passing.{folder_word, setter_word}
use Rattle.meson_following.specs.Reads.{holds_text, is_format, read_in_part, read_places, reads_variable}
use Rattle.meson_following.proofs.MuteWords.{AreMute, HasWord, IsMute, Lacks, mute_left, mute_right}

-- ---- texts

-- a text is no other one in which the word is
pub differs : (word text other : List ℕ) → Lacks word text → HasWord word other → bytes_eq text other ≡ false
differs word text other none has = by (bytes_eq text other) (bytes_eq-Decides text other).0
  where
    by : (b : Bool) → (b ≡ true → text ≡ other) → b ≡ false
    by false same = refl
    by true same = absurd (none (subst (HasWord word) (sym (same refl)) has))

-- the same the other way about
differs_back : (word text other : List ℕ) → Lacks word text → HasWord word other → bytes_eq other text ≡ false
differs_back word text other none has = by (bytes_eq other text) (bytes_eq-Decides other text).0
  where
    by : (b : Bool) → (b ≡ true → other ≡ text) → b ≡ false
    by false same = refl
    by true same = absurd (none (subst (HasWord word) (same refl) has))

pub itself_in : (word : List ℕ) → HasWord word word
itself_in word = record { front = []; rest = []; is = sym (append-nil word) }

pub setter_in : HasWord setter_word (codes "set_variable")
setter_in = record { front = codes "set"; rest = []; is = refl }

pub unsetter_in : HasWord setter_word (codes "unset_variable")
unsetter_in = record { front = codes "unset"; rest = []; is = refl }

getter_in : HasWord setter_word (codes "get_variable")
getter_in = record { front = codes "get"; rest = []; is = refl }

pub done_in : HasWord folder_word (codes "subdir_done")
done_in = record { front = []; rest = codes "_done"; is = refl }

module _ (x : List ℕ) where
  abbrev placeholder : List ℕ
  placeholder = codes "@" ++ (x ++ codes "@")

  begins_not : (text : List ℕ) → Lacks x text → starts_with nat_eq text placeholder ≡ false
  begins_not text none = by (starts_with nat_eq text placeholder) (bytes_eq-Decides placeholder (take (length placeholder) text)).0
    where
      found : placeholder ≡ take (length placeholder) text → HasWord x text
      found is =
          let rest = drop (length placeholder) text in
          record {
            front = codes "@";
            rest = codes "@" ++ rest;
            is = sym (take-append-drop (length placeholder) text) ∙ ap (λ t. t ++ rest) (sym is)
                ∙ append_assoc (codes "@") (x ++ codes "@") rest ∙ ap (λ t. codes "@" ++ t) (append_assoc x (codes "@") rest);
          }

      by : (b : Bool) → (b ≡ true → placeholder ≡ take (length placeholder) text) → b ≡ false
      by false same = refl
      by true same = absurd (none (found (same refl)))

  rest_lacks : (c : ℕ) (text : List ℕ) → Lacks x (c ∷ text) → Lacks x text
  rest_lacks c text none h = none (record { front = c ∷ h.front; rest = h.rest; is = ap (λ t. c ∷ t) h.is })

  no_placeholder : (text : List ℕ) → Lacks x text → holds_text placeholder text ≡ false
  no_placeholder [] none = begins_not [] none
  no_placeholder (c ∷ text) none =
      ap₂ (λ a b. a || b) (begins_not (c ∷ text) none) (no_placeholder text (rest_lacks c text none))

  -- ---- calls

  abbrev pub AreQuiet : List (Call Span) → Type 0
  AreQuiet = Every (λ c. IsMute x c.function)

  mutual
    pub calls_mute : (e : Expression Span) → AreMute x (expression_words e) → AreQuiet (calls_of e)
    calls_mute (identifier s y) mute = tt
    calls_mute (boolean s b) mute = tt
    calls_mute (integer s y) mute = tt
    calls_mute (string s q y) mute = tt
    calls_mute (paren s e) mute = calls_mute e (mute_left x (expression_words e) (mark k.CloseRound) mute.1)
    calls_mute (array l) mute = in_listing l bracket.Square mute
    calls_mute (dictionary l) mute = in_listing l bracket.Curly mute
    calls_mute (call s f l) mute = (mute.0, in_listing l bracket.Round mute.1)
    calls_mute (unary s o e) mute = calls_mute e mute.1
    calls_mute (row s e os) mute =
        every-append _ (calls_of e) (calls_of_operands os) (calls_mute e (mute_left x (expression_words e) (operands_words os) mute)) (in_operands os (mute_right x (expression_words e) (operands_words os) mute))
    calls_mute (postfix s e ts) mute =
        every-append _ (calls_of e) (calls_of_tails ts) (calls_mute e (mute_left x (expression_words e) (tails_words ts) mute)) (in_tails ts (mute_right x (expression_words e) (tails_words ts) mute))
    calls_mute (conditional s c y n) mute =
        let more = (mute_right x (expression_words c) (mark k.Question ++ (expression_words y ++ (mark k.Colon ++ expression_words n))) mute).1 in
        every-append _ (calls_of c) (calls_of y ++ calls_of n)
        (calls_mute c (mute_left x (expression_words c) (mark k.Question ++ (expression_words y ++ (mark k.Colon ++ expression_words n))) mute))
        (every-append _ (calls_of y) (calls_of n) (calls_mute y (mute_left x (expression_words y) (mark k.Colon ++ expression_words n) more))
        (calls_mute n (mute_right x (expression_words y) (mark k.Colon ++ expression_words n) more).1))

    in_operands : (os : Operands Span) → AreMute x (operands_words os) → AreQuiet (calls_of_operands os)
    in_operands no_operands mute = tt
    in_operands (operand o e more) mute =
        let rest = mute_right x (operator_words o) (expression_words e ++ operands_words more) mute in
        every-append _ (calls_of e) (calls_of_operands more) (calls_mute e (mute_left x (expression_words e) (operands_words more) rest)) (in_operands more (mute_right x (expression_words e) (operands_words more) rest))

    in_tail : (t : Tail Span) → AreMute x (tail_words t) → AreQuiet (calls_of_tail t)
    in_tail (method s f l) mute = in_listing l bracket.Round mute.1.1
    in_tail (index s e) mute = calls_mute e (mute_left x (expression_words e) (mark k.CloseSquare) mute.1)

    in_tails : (ts : Tails Span) → AreMute x (tails_words ts) → AreQuiet (calls_of_tails ts)
    in_tails no_tails mute = tt
    in_tails (tail t more) mute =
        every-append _ (calls_of_tail t) (calls_of_tails more) (in_tail t (mute_left x (tail_words t) (tails_words more) mute)) (in_tails more (mute_right x (tail_words t) (tails_words more) mute))

    pub in_listing : (l : Listing Span) (b : Bracket) → AreMute x (listing_words l b) → AreQuiet (calls_of_listing l)
    in_listing (listing s trailing list) b mute = in_arguments list trailing (mute_left x (arguments_words list trailing) (mark (closes b)) mute.1)

    in_argument : (a : Argument Span) → AreMute x (argument_words a) → AreQuiet (calls_of_argument a)
    in_argument (plain e) mute = calls_mute e mute
    in_argument (named s y e) mute = calls_mute e mute.1.1
    in_argument (pair s e f) mute =
        every-append _ (calls_of e) (calls_of f) (calls_mute e (mute_left x (expression_words e) (mark k.Colon ++ expression_words f) mute))
        (calls_mute f (mute_right x (expression_words e) (mark k.Colon ++ expression_words f) mute).1)

    in_arguments : (list : Arguments Span) (trailing : Bool) → AreMute x (arguments_words list trailing) → AreQuiet (calls_of_arguments list)
    in_arguments no_arguments trailing mute = tt
    in_arguments (argument a more) trailing mute =
        let rest = mute_right x (argument_words a) (comma_words more trailing ++ arguments_words more trailing) mute in
        every-append _ (calls_of_argument a) (calls_of_arguments more) (in_argument a (mute_left x (argument_words a) (comma_words more trailing ++ arguments_words more trailing) mute))
        (in_arguments more trailing (mute_right x (comma_words more trailing) (arguments_words more trailing) rest))

  sets : (f : List ℕ) → IsMute x f → one_of setting_functions f ≡ false
  sets f mute =
      ap₂ (λ a b. a || (b || false)) (differs_back setter_word f (codes "set_variable") mute.setter setter_in)
      (differs_back setter_word f (codes "unset_variable") mute.setter unsetter_in)

  pub none_sets : (cs : List (Call Span)) → AreQuiet cs → any_may_set x cs ≡ false
  none_sets [] quiet = refl
  none_sets (c ∷ cs) quiet =
      ap₂ (λ a b. (a || (b && fits x (named_by c))) || any_may_set x cs) (differs folder_word c.function (codes "subdir") quiet.0.folder (itself_in folder_word)) (sets c.function quiet.0)
      ∙ none_sets cs quiet.1

  pub none_leaves : (cs : List (Call Span)) → AreQuiet cs → any_leaves_file cs ≡ false
  none_leaves [] quiet = refl
  none_leaves (c ∷ cs) quiet =
      ap₂ (λ a b. a || b) (differs folder_word c.function (codes "subdir_done") quiet.0.folder done_in) (none_leaves cs quiet.1)

  -- ---- reads

  not_read : (e : Expression Span) → AreMute x (expression_words e) → reads_variable x e ≡ false
  not_read (identifier s y) mute = differs x y x mute.0.variable (itself_in x)
  not_read (string s q text) mute = ap (λ b. is_format q && b) (no_placeholder text mute.0.variable) ∙ and-false (is_format q)
  not_read (call s f l) mute = ap (λ b. b && fits x (named_by (record { function = f.text; arguments = l }))) (differs setter_word f.text (codes "get_variable") mute.0.setter getter_in)
  not_read (boolean s b) mute = refl
  not_read (integer s y) mute = refl
  not_read (paren s e) mute = refl
  not_read (array l) mute = refl
  not_read (dictionary l) mute = refl
  not_read (unary s o e) mute = refl
  not_read (row s e os) mute = refl
  not_read (postfix s e ts) mute = refl
  not_read (conditional s c y n) mute = refl

  abbrev IsUnread : Placed (Part Span) → Type 0
  IsUnread q = read_in_part x q ≡ None

  down : (p : CallRef) (y : Any Span) → AreMute x (words_of y) → (n : ℕ) (z : Any Span) → nth (child_nodes y) n ≡ Some z → AreMute x (words_of z)
  down p y mute n z is =
      let among = child_words Span y n z is in
      mute_left x (words_of z) among.behind (mute_right x among.before (words_of z ++ among.behind) (subst (AreMute x) among.are mute))

  unread : (p : CallRef) (y : Part Span) → AreMute x (words_of (any y)) → IsUnread (placed p y)
  unread p (part.an_expression e) mute = ap (λ b. if b then Some p else None) (not_read e mute)
  unread p (part.a_statement s) mute = refl

  pub no_reads : (q : CallRef) (e : Expression Span) → AreMute x (expression_words e) → read_places x (placed q e) ≡ []
  no_reads q e mute = none (parts_of_expression q e) (each_part (λ p y. AreMute x (words_of y)) IsUnread down unread q (an_expression e) mute)
    where
      none : (ps : List (Placed (Part Span))) → Every (λ q. read_in_part x q ≡ None) ps → filter_map (read_in_part x) ps ≡ []
      none [] all = refl
      none (p ∷ ps) all = ap (λ o. cons_option o (filter_map (read_in_part x) ps)) all.0 ∙ none ps all.1
