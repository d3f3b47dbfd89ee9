-- What is written for a new target, `KIND('NAME', 'SOURCE', ..)`, spells its statement.
use Rattle.meson_targets.proofs.Words.{◌≡◌, ℕ, Bool, true, false, List, [], ◌∷◌, ◌++◌, map, codes, refl, ap, ◌∙◌, subst, arith, ◌≤◌, ◌||◌, ◌&&◌, None, not}
use Rattle.meson_targets.proofs.Words.{bytes_eq, list_all, bytes_eq-Decides, IsNoneOf, IsWord, reserved, literal, literal_string, literal_return}
use Rattle.meson_targets.proofs.Words.{statement_words, LevelStatement, LevelArguments, statement_depth, IsWrittenStatement, one_of, target_functions}
use Rattle.meson_targets.proofs.Words.{comma_between, Texts, behind, flagged, inner, inner_items, inner_joined, inner_words, strings, strings_flat, texts_text}
use Rattle.meson_targets.proofs.Words.{is_target_kind, target_statement, written_target}
use Rattle.std.proofs.Common.{IsUtf8}
use Rattle.std.specs.Char.{encode_utf8}
use Rattle.std.proofs.lemmas.Str.{IsUtf8-append}
use Rattle.meson_lex.specs.declared.kinds.Kind.TheVariants as k
use Rattle.meson_lex.specs.Items.{Lexeme, joined, IsItem, AreItems}
use Rattle.meson_lex.specs.Bytes.{first_bare_return, is_word_byte}
use Rattle.meson_lex.specs.Words.{IsTight}
use Rattle.meson_lex.proofs.Seams.{joined-append, AreItems-append}
use Rattle.meson_syntax.specs.declared.operator.Bracket.TheVariants as bracket
use Rattle.meson_edit.specs.Lines.{HasNoLineEnd}
use Rattle.meson_edit.proofs.exchange.Standing.{line-text}
use Rattle.meson_steps.proofs.Spellings.{differs, none_of}
use Rattle.meson_calls.proofs.IdentifierTexts.{key_text}

-- ---- the function

abbrev name_item : List ℕ → Lexeme
name_item kind = record { kind = k.Identifier; text = kind }

-- it may stand before a bracket
record IsFunction (kind : List ℕ) : Type 0 where
  stands : (rest : List ℕ) → IsItem (name_item kind) (40 ∷ rest)
  text : IsUtf8 kind

function : (kind : List ℕ) → IsWord kind → list_all is_word_byte kind ≡ true → IsNoneOf reserved kind → first_bare_return kind ≡ None → bytes_eq kind (codes "f") ≡ false → IsFunction kind
function kind word low none whole other =
    record { stands = λ rest. ((word, none), whole, (refl, λ same. absurd (differs kind (codes "f") other same))); text = key_text kind low }

abbrev AllFunctions : List (List ℕ) → Type 0
AllFunctions [] = Unit {0}
AllFunctions (x ∷ xs) = IsFunction x × AllFunctions xs

among : (xs : List (List ℕ)) → AllFunctions xs → (kind : List ℕ) → one_of xs kind ≡ true → IsFunction kind
among [] all kind is = absurd cc
among (x ∷ xs) all kind is = go (bytes_eq x kind) refl is (among xs all.1 kind)
  where
    go : (b : Bool) → bytes_eq x kind ≡ b → b || one_of xs kind ≡ true → (one_of xs kind ≡ true → IsFunction kind) → IsFunction kind
    go true same is later = subst IsFunction ((bytes_eq-Decides x kind).0 same) all.0
    go false same is later = later is

first_of : (a b : Bool) → a && b ≡ true → a ≡ true
first_of true b is = refl
first_of false b is = absurd cc

is_function : (kind : List ℕ) → is_target_kind kind ≡ true → IsFunction kind
is_function kind is =
    among target_functions (
      function (codes "executable") (refl, refl) refl (none_of reserved (codes "executable") refl) refl refl,
      (
        function (codes "static_library") (refl, refl) refl (none_of reserved (codes "static_library") refl) refl refl,
        (
          function (codes "shared_library") (refl, refl) refl (none_of reserved (codes "shared_library") refl) refl refl,
          (
            function (codes "shared_module") (refl, refl) refl (none_of reserved (codes "shared_module") refl) refl refl,
            (
              function (codes "both_libraries") (refl, refl) refl (none_of reserved (codes "both_libraries") refl) refl refl,
              (
                function (codes "library") (refl, refl) refl (none_of reserved (codes "library") refl) refl refl,
                (
                  function (codes "jar") (refl, refl) refl (none_of reserved (codes "jar") refl) refl refl,
                  (function (codes "build_target") (refl, refl) refl (none_of reserved (codes "build_target") refl) refl refl, tt),
                ),
              ),
            ),
          ),
        ),
      ),
    ) kind
    (first_of (one_of target_functions kind) (not (bytes_eq kind (codes "build_target"))) is)

-- ---- the items

abbrev open_round : Lexeme
open_round = record { kind = k.OpenRound; text = 40 ∷ [] }

abbrev close_round : Lexeme
close_round = record { kind = k.CloseRound; text = 41 ∷ [] }

abbrev all : List ℕ → List (List ℕ) → List Lexeme
all kind ts = name_item kind ∷ open_round ∷ (inner ts ++ close_round ∷ [])

all_items : (kind : List ℕ) → IsFunction kind → (ts : List (List ℕ)) → AreItems (all kind ts) []
all_items kind f ts =
    (f.stands (joined (inner ts ++ close_round ∷ []) ++ []), ((refl, refl, tt), AreItems-append (inner ts) (close_round ∷ []) [] (inner_items 41 (λ t. (literal_string t, literal_return t, λ empty. refl)) ts) ((refl, refl, tt), tt)))

all_joined : (kind : List ℕ) (ts : List (List ℕ)) → joined (all kind ts) ≡ (written_target kind ts).bytes
all_joined kind ts = ap (λ l. kind ++ (40 ∷ l)) (joined-append (inner ts) (close_round ∷ []) ∙ ap (λ l. l ++ 41 ∷ []) (inner_joined ts))

behind_lines : (ts : List (List ℕ)) → HasNoLineEnd (behind ts ++ close_round ∷ [])
behind_lines [] = (λ same. absurd cc, tt)
behind_lines (t ∷ ts) = (λ same. absurd cc, (λ same. absurd cc, (λ same. absurd cc, behind_lines ts)))

inner_lines : (ts : List (List ℕ)) → HasNoLineEnd (inner ts ++ close_round ∷ [])
inner_lines [] = (λ same. absurd cc, tt)
inner_lines (t ∷ ts) = (λ same. absurd cc, behind_lines ts)

all_lines : (kind : List ℕ) (ts : List (List ℕ)) → HasNoLineEnd (all kind ts)
all_lines kind ts = (λ same. absurd cc, (λ same. absurd cc, inner_lines ts))

all_tight : (kind : List ℕ) (ts : List (List ℕ)) → IsTight (all kind ts)
all_tight kind ts = record {
  first = name_item kind;
  more = open_round ∷ (inner ts ++ close_round ∷ []);
  begins = refl;
  first_speaks = refl;
  front = name_item kind ∷ open_round ∷ inner ts;
  last = close_round;
  ends = refl;
  last_speaks = refl;
}

-- ---- UTF-8 and levels

open_text : IsUtf8 (codes "(")
unfolding encode_utf8
open_text = (codes "(", (refl, refl))

close_text : IsUtf8 (codes ")")
unfolding encode_utf8
close_text = (codes ")", (refl, refl))

all_text : (kind : List ℕ) → IsFunction kind → (ts : List (List ℕ)) → Texts ts → IsUtf8 (written_target kind ts).bytes
all_text kind f ts are =
    IsUtf8-append kind (codes "(" ++ (comma_between (map literal ts) ++ codes ")")) f.text
    (IsUtf8-append (codes "(") (comma_between (map literal ts) ++ codes ")") open_text (IsUtf8-append (comma_between (map literal ts)) (codes ")") (texts_text ts are) close_text))

strings_level : (ts : List (List ℕ)) → LevelArguments (strings ts) bracket.Round false
strings_level [] = tt
strings_level (t ∷ ts) = ((refl, refl, tt), strings_level ts)

-- ---- the statement

pub target_written : (kind : List ℕ) → is_target_kind kind ≡ true → (ts : List (List ℕ)) → Texts ts → IsWrittenStatement (written_target kind ts).bytes (statement_words (target_statement kind ts))
target_written kind is ts are =
    let f = is_function kind is in
    record {
      text = line-text (written_target kind ts).bytes (all kind ts) (record { joins = all_joined kind ts; each = all_items kind f ts }) (all_lines kind ts) (all_tight kind ts) (statement_words (target_statement kind ts))
          (ap (λ l. (k.Identifier, kind) ∷ (k.OpenRound, []) ∷ l) (inner_words ts (close_round ∷ [])));
      utf8 = all_text kind f ts are;
    }

pub target_level : (kind : List ℕ) (ts : List (List ℕ)) → LevelStatement (target_statement kind ts)
target_level kind ts = (flagged ts, strings_level ts)

pub target_depth : (kind : List ℕ) (ts : List (List ℕ)) → statement_depth (target_statement kind ts) ≤ 1
target_depth kind ts = let flat = strings_flat ts in omega (arith, flat)
