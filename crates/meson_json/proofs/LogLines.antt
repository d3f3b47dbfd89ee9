-- A line end behind the compact text of a value changes nothing of what is read.
use Rattle.std.proofs.Common.{◌≡◌, ℕ, ◌^◌, ◌<◌, Bool, true, false, ◌&&◌, List, [], ◌∷◌, ◌++◌, map, decimal, refl, sym, ap, ap₂, ◌∙◌, arith, append_assoc, append-nil}
use Rattle.std.specs.Prelude.{nat_lt, option_and_then}
use Rattle.std.specs.List.{list_all}
use Rattle.std.proofs.lemmas.Bool.Decides.{nat_tests}
use Rattle.json.specs.Json as json
use Rattle.json.specs.Lex.{Lexeme, token, comma, colon, between, in_string, lex, punctuate, fresh, string_token}
use Rattle.json.specs.Print.{quoted, escape}
use Rattle.json.specs.Text.{content, plain}
use Rattle.json.specs.Token as token
use Rattle.json.specs.Word.{ends_word}
use Rattle.json.proofs.Printed.Decimals.{IsNumber-decimal}
use Rattle.json.proofs.Printed.Numbers.{lex-number}
use Rattle.json.proofs.Printed.Strings.{content-escape, lex-escape}
use Rattle.serde_json.specs.Data.{Data, null, boolean, number, unsigned, negative, float, string, array, object, Items, no_items, item, Members, no_members, member}
use Rattle.serde_json.specs.Read.{read, of_json, max_depth}
use Rattle.serde_json.specs.View.{items_of}
use Rattle.serde_json.specs.Written.{compact_text, items_text, members_text, comma_if}
use Rattle.meson_splice.specs.declared.change.Change.{Change}
use Rattle.meson_splice.specs.declared.history.History.{History}
use Rattle.meson_splice.specs.declared.splice.Splice.{Splice}
use Rattle.meson_json.specs.Log.{splice_data, change_data, log_data, is_placed, are_placed}

-- of strings, and of whole numbers of 64 bits without sign
abbrev mutual
  IsPlain : Data → Type 0
  IsPlain null = ⊥
  IsPlain (boolean b) = ⊥
  IsPlain (number (unsigned n)) = n < 2 ^ 64
  IsPlain (number (negative z)) = ⊥
  IsPlain (number (float x)) = ⊥
  IsPlain (string s) = Unit {0}
  IsPlain (array ds) = ArePlain ds
  IsPlain (object ms) = HavePlain ms

  ArePlain : Items → Type 0
  ArePlain no_items = Unit {0}
  ArePlain (item d ds) = IsPlain d × ArePlain ds

  HavePlain : Members → Type 0
  HavePlain no_members = Unit {0}
  HavePlain (member k d ms) = IsPlain d × HavePlain ms

-- the lexer goes past the text, where a word may end behind it
abbrev Passes : List ℕ → Type 0
Passes text = (ls : List Lexeme) × ((rest : List ℕ) → ends_word rest ≡ true → lex between (text ++ rest) ≡ ls ++ lex between rest)

-- and whatever stands behind it
abbrev PassesAlone : List ℕ → Type 0
PassesAlone text = (ls : List Lexeme) × ((rest : List ℕ) → lex between (text ++ rest) ≡ ls ++ lex between rest)

lex-quoted : (s rest : List ℕ) → lex between (quoted s ++ rest) ≡ token (token.string s) ∷ lex between rest
unfolding lex
lex-quoted s rest =
    let inside : (escape s ++ 34 ∷ []) ++ rest ≡ escape s ++ 34 ∷ rest = append_assoc (escape s) (34 ∷ []) rest in
    ap₂ (λ c l. token (string_token c) ∷ l) (ap (content plain) inside ∙ content-escape s rest) (ap (lex in_string) inside ∙ lex-escape s rest)

-- a number is followed by a comma or a closing bracket
ends-items : (ds : Items) (rest : List ℕ) → ends_word (items_text true ds ++ rest) ≡ true
ends-items no_items rest = refl
ends-items (item d ds) rest = refl

ends-members : (ms : Members) (rest : List ℕ) → ends_word (members_text true ms ++ rest) ≡ true
ends-members no_members rest = refl
ends-members (member k d ms) rest = refl

-- a comma, where something stands before
commas : Bool → List Lexeme
commas true = comma ∷ []
commas false = []

lex-comma : (later : Bool) (rest : List ℕ) → lex between (comma_if later ++ rest) ≡ commas later ++ lex between rest
unfolding lex commas
lex-comma true rest = refl
lex-comma false rest = refl

mutual
  unfolding lex

  passes : (d : Data) → IsPlain d → Passes (compact_text d)
  passes null h = absurd h
  passes (boolean b) h = absurd h
  passes (number (unsigned n)) h = (token (token.number (decimal n)) ∷ [], λ rest e. lex-number (decimal n) rest (IsNumber-decimal n h) e)
  passes (number (negative z)) h = absurd h
  passes (number (float x)) h = absurd h
  passes (string s) h = (token (token.string s) ∷ [], λ rest e. lex-quoted s rest)
  passes (array ds) h =
      let inside = passes-items false ds h in
      (token token.begin_array ∷ inside.0, λ rest e. ap (λ ls. token token.begin_array ∷ ls) (inside.1 rest))
  passes (object ms) h =
      let inside = passes-members false ms h in
      (token token.begin_object ∷ inside.0, λ rest e. ap (λ ls. token token.begin_object ∷ ls) (inside.1 rest))

  passes-items : (later : Bool) (ds : Items) → ArePlain ds → PassesAlone (items_text later ds)
  passes-items later no_items h = (token token.end_array ∷ [], λ rest. refl)
  passes-items later (item d ds) h =
      let first = passes d h.0 in
      let others = passes-items true ds h.1 in (
        commas later ++ (first.0 ++ others.0),
        λ rest.
            ap (lex between) (append_assoc (comma_if later) (compact_text d ++ items_text true ds) rest)
            ∙ lex-comma later ((compact_text d ++ items_text true ds) ++ rest)
            ∙ ap (λ ls. commas later ++ ls) (ap (lex between) (append_assoc (compact_text d) (items_text true ds) rest) ∙ first.1 (items_text true ds ++ rest) (ends-items ds rest) ∙ ap (λ ls. first.0 ++ ls) (others.1 rest))
            ∙ ap (λ ls. commas later ++ ls) (sym (append_assoc first.0 others.0 (lex between rest)))
            ∙ sym (append_assoc (commas later) (first.0 ++ others.0) (lex between rest)),
      )

  passes-members : (later : Bool) (ms : Members) → HavePlain ms → PassesAlone (members_text later ms)
  passes-members later no_members h = (token token.end_object ∷ [], λ rest. refl)
  passes-members later (member k d ms) h =
      let first = passes d h.0 in
      let others = passes-members true ms h.1 in
      let named : List Lexeme = token (token.string k) ∷ colon ∷ [] in (
        commas later ++ (named ++ (first.0 ++ others.0)),
        λ rest.
            ap (lex between) (append_assoc (comma_if later) (quoted k ++ 58 ∷ (compact_text d ++ members_text true ms)) rest)
            ∙ lex-comma later ((quoted k ++ 58 ∷ (compact_text d ++ members_text true ms)) ++ rest)
            ∙ ap (λ ls. commas later ++ ls) (ap (lex between) (append_assoc (quoted k) (58 ∷ (compact_text d ++ members_text true ms)) rest)
            ∙ lex-quoted k (58 ∷ ((compact_text d ++ members_text true ms) ++ rest))
            ∙ ap (λ ls. named ++ ls) (ap (lex between) (append_assoc (compact_text d) (members_text true ms) rest) ∙ first.1 (members_text true ms ++ rest) (ends-members ms rest) ∙ ap (λ ls. first.0 ++ ls) (others.1 rest)))
            ∙ ap (λ ls. commas later ++ (named ++ ls)) (sym (append_assoc first.0 others.0 (lex between rest)))
            ∙ sym (append_assoc (commas later) (named ++ (first.0 ++ others.0)) (lex between rest)),
      )

lex-line : (d : Data) → IsPlain d → lex between (compact_text d ++ 10 ∷ []) ≡ lex between (compact_text d)
unfolding lex
lex-line d h = let p = passes d h in p.1 (10 ∷ []) refl ∙ sym (p.1 [] refl) ∙ ap (lex between) (append-nil (compact_text d))

pub read-line : (d : Data) → IsPlain d → read (compact_text d ++ 10 ∷ []) ≡ read (compact_text d)
read-line d h = ap (λ ls. option_and_then of_json (option_and_then (λ p. json.if_last p.0 p.1) (json.value max_depth (punctuate fresh ls)))) (lex-line d h)

-- ---- the log is such a value

pub both : (a b : Bool) → (a && b) ≡ true → (a ≡ true) × (b ≡ true)
both true b h = (refl, h)
both false b h = absurd (let bad : ⊥ = cc in bad)

below : (n : ℕ) → nat_lt n (2 ^ 64) ≡ true → n < 2 ^ 64
below n h = grind (arith, nat_tests)

plain-splices : (ss : List Splice) → list_all is_placed ss ≡ true → ArePlain (items_of (map splice_data ss))
plain-splices [] h = tt
plain-splices (s ∷ ss) h = let p = both (is_placed s) _ h in ((below s.at p.0, (tt, (tt, (tt, tt)))), plain-splices ss p.1)

plain-changes : (cs : List Change) → are_placed cs ≡ true → ArePlain (items_of (map change_data cs))
plain-changes [] h = tt
plain-changes (c ∷ cs) h = let p = both (list_all is_placed c.splices) _ h in ((plain-splices c.splices p.0, (tt, tt)), plain-changes cs p.1)

two : 2 < 2 ^ 64
two = omega arith

pub plain-log : (h : History) → are_placed h.future ≡ true → are_placed h.past ≡ true → IsPlain (log_data h)
unfolding log_data
plain-log h future past = (plain-changes h.future future, (plain-changes h.past past, (two, tt)))
