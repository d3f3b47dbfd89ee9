-- Where help or the version is among the kinds of fault that may come, it is the one that comes.
use Rattle.std.proofs.Common.{◌≡◌, ◌&&◌, ◌||◌, ℕ, Bool, true, false, not, zero, suc, List, [], ◌∷◌, length, drop, Option, Some, None, is_some, inl, inr, codes, refl, sym, ap, encode_utf8}
use Rattle.std.specs.Prelude.{◌==◌, if◌then◌else◌, find, nat_lt, slice_get}
use Rattle.std.specs.Option.{option_map_or}
use Rattle.std.specs.List.{list_all}
use Rattle.std.specs.Str.{bytes_eq, chars}
use Rattle.clap.specs.Kinds.{IsAmong, Kinds, check_kinds, or_else, range_kinds, request_kinds, values_kinds}
use Rattle.clap.specs.Faults.{action_fault, built_fault, bundle_step_fault, count_fault, defaults_fault, entered_fault, flag_word_fault, flags_fault, level_fault, long_fault, option_fault, other_fault, positional_fault, react_fault, set_fault, settle_fault, short_fault, step_fault, stray_fault, turn_fault, use_fault, walk_fault}
use Rattle.clap.specs.Facts.{unwrap_or_range}
use Rattle.clap.specs.Lexer.{long_of, short_of}
use Rattle.clap.specs.Simple.{App, Shape, entered, names_of}
use Rattle.clap.specs.Walk.{Held, Names, Row, Rule, Step, Text, Walk, action_of, arg_by_index, arg_by_id, arg_by_long, arg_by_short, attached_value, has_row, is_empty, is_pending, most_values, nothing_held, reacted, settled, subcommand_met, takes_several, takes_values, values_or_missing, walk, walk_from, walked, with_default, word_met}
use Rattle.clap.specs.Walk as step
use Rattle.clap.specs.declared.builder.action.ArgAction.{ArgAction}
use Rattle.clap.specs.declared.builder.action.ArgAction.TheVariants as action
use Rattle.clap.specs.declared.builder.value_parser.ValueParser.{ValueParser}
use Rattle.clap.specs.declared.error.kind.ErrorKind.{ErrorKind}
use Rattle.clap.specs.declared.error.kind.ErrorKind.TheVariants.{DisplayHelp, DisplayVersion}

pub record Clean (ks : Kinds) : Type 0 where
  pub alone : IsAmong DisplayHelp ks → ks ≡ DisplayHelp ∷ []
  pub version_alone : IsAmong DisplayVersion ks → ks ≡ DisplayVersion ∷ []

none : Clean []
none = record { alone = λ h. absurd h; version_alone = λ h. absurd h }

only : (k x : ErrorKind) → IsAmong x (k ∷ []) → k ∷ [] ≡ x ∷ []
only k x h = elim h [ inl e ↦ ap (λ z. z ∷ []) (sym e) | inr e ↦ absurd e ]

one : (k : ErrorKind) → Clean (k ∷ [])
one k = record { alone = only k DisplayHelp; version_alone = only k DisplayVersion }

or : (a b : Kinds) → Clean a → Clean b → Clean (or_else a b)
or [] b h k = k
or (x ∷ xs) b h k = h

choose : (t : Bool) (a b : Kinds) → Clean a → Clean b → Clean (if t then a else b)
choose true a b h k = h
choose false a b h k = k

map_or : {A : Type 0} (o : Option A) (f : A → Kinds) → ((x : A) → Clean (f x)) → Clean (option_map_or f o [])
map_or None f h = none
map_or (Some x) f h = h x

values : (i : Bool) (p : ValueParser) (vs : List Text) → Clean (values_kinds i p vs)
values i p [] = none
values i p (v ∷ vs) = or _ _ (choose _ _ _ none (one _)) (values i p vs)

range : (least most n : ℕ) → Clean (range_kinds least most n)
range least most n = choose (nat_lt 0 least && n == 0) _ _ (one _) (choose (least == most) _ _ (choose (least == n) _ _ none (one _)) (choose (nat_lt n least) _ _ (one _) (choose (nat_lt most n) _ _ (one _) none)))

request : (a : ArgAction) → Clean (request_kinds a)
request action.Set = none
request action.Append = none
request action.SetTrue = none
request action.SetFalse = none
request action.Count = none
request action.Help = one _
request action.HelpShort = one _
request action.HelpLong = one _
request action.Version = one _

count : (a : Rule) (vs : List Text) (rows : List Row) → Clean (count_fault a vs rows)
count a [] rows = choose _ _ _ none (one _)
count a (v ∷ vs) rows = values _ _ (v ∷ vs)

set : (again : Bool) (a : Rule) (vs : List Text) (rows : List Row) → Clean (set_fault again a vs rows)
set again a vs rows = or _ _ (choose _ _ _ (one _) none) (values _ _ vs)

action_is : (x : ArgAction) (again : Bool) (a : Rule) (vs : List Text) (rows : List Row) → Clean (action_fault x again a vs rows)
action_is action.Set again a vs rows = set again a vs rows
action_is action.SetTrue again a vs rows = set again a vs rows
action_is action.SetFalse again a vs rows = set again a vs rows
action_is action.Append again a vs rows = values _ _ vs
action_is action.Count again a vs rows = count a vs rows
action_is action.Help again a vs rows = one _
action_is action.HelpShort again a vs rows = one _
action_is action.HelpLong again a vs rows = one _
action_is action.Version again a vs rows = one _

use_is : (again : Bool) (a : Rule) (vs : List Text) (rows : List Row) → Clean (use_fault again a vs rows)
use_is again a vs rows = or _ _ (range (unwrap_or_range a.range).start_inclusive (most_values a) (length vs)) (action_is (action_of a) again a (values_or_missing a vs) rows)

settle : (c : List Rule) (again : Bool) (h : Held) → Clean (settle_fault c again h)
settle c again h = map_or h.pending _ (λ p. map_or (arg_by_id c p.0) _ (λ a. use_is again a p.1 h.rows))

react : (c : List Rule) (again : Bool) (a : Rule) (vs : List Text) (h : Held) → Clean (react_fault c again a vs h)
react c again a vs h = or _ _ (settle c again h) (use_is again a vs (settled c h).rows)

option : (c : List Rule) (again : Bool) (a : Rule) (v : Option Text) (h : Held) → Clean (option_fault c again a v h)
option c again a (Some v) h = react c again a (v ∷ []) h
option c again a None h = settle c again h

long : (c : List Rule) (again : Bool) (a : Option Rule) (v : Option Text) (h : Held) → Clean (long_fault c again a v h)
long c again None v h = one _
long c again (Some a) v h = choose (takes_values a) _ _ (option c again a v h) (choose (is_some v) _ _ (one _) (react c again a [] h))

short : (c : List Rule) (again : Bool) (a : Option Rule) (rest : Text) (h : Held) (f : Held → Kinds) → ((k : Held) → Clean (f k)) → Clean (short_fault c again a rest h f)
short c again None rest h f k = one _
short c again (Some a) rest h f k = choose (takes_values a) _ _ (option c again a (attached_value rest) h) (or _ _ (react c again a [] h) (k (reacted c a [] h)))

bundle_step : (c : List Rule) (again : Bool) (x : Option ℕ) (flags : Text) (skip : ℕ) (h : Held) (f : Text → ℕ → Held → Kinds)
    → ((t : Text) (n : ℕ) (k : Held) → Clean (f t n k)) → Clean (bundle_step_fault c again x flags skip h f)
bundle_step c again None flags skip h f k = none
bundle_step c again (Some x) flags zero h f k = short c again (arg_by_short c x) (drop (length (encode_utf8 x)) flags) h _ (k (drop (length (encode_utf8 x)) flags) 0)
bundle_step c again (Some x) flags (suc skip) h f k = k (drop (length (encode_utf8 x)) flags) skip h

flags : (c : List Rule) (again : Bool) (n : ℕ) (t : Text) (skip : ℕ) (h : Held) → Clean (flags_fault c again n t skip h)
unfolding flags_fault
flags c again zero t skip h = none
flags c again (suc n) t skip h = bundle_step c again (slice_get (chars t) 0) t skip h _ (flags c again n)

flag_word : (c : List Rule) (again : Bool) (o : Option (Text × Option Text)) (word : Text) (h : Held) → Clean (flag_word_fault c again o word h)
flag_word c again (Some p) word h = long c again (arg_by_long c p.0) p.1 h
flag_word c again None word h = map_or (short_of word) _ (λ f. flags c again (length f) f h.skip (record h { skip = 0 }))

-- ---- of a command without `help` as a subcommand

and_not : (a b : Bool) → b ≡ true → (a && not b) ≡ false
and_not true true e = refl
and_not true false e = sym e
and_not false b e = refl

other : (s : Shape) → s.disable_help_subcommand ≡ true → (name : Option Text) (word : Text) (h : Held) → Clean (other_fault s name word h)
other s e (Some name) word h = rw (and_not (bytes_eq name (codes "help")) s.disable_help_subcommand e) none
other s e None word h = choose (bytes_eq word (45 ∷ 45 ∷ [])) _ _ none (flag_word s.rules s.args_override_self (long_of word) word h)

stray : (s : Shape) → Clean (stray_fault s)
stray s = choose s.is_leaf _ _ (one _) (record {
  alone = λ h. elim h [ inl e ↦ cc | inr k ↦ elim k [ inl e ↦ cc | inr e ↦ absurd e ] ];
  version_alone = λ h. elim h [ inl e ↦ cc | inr k ↦ elim k [ inl e ↦ cc | inr e ↦ absurd e ] ];
})

step_is : (s : Shape) (position : ℕ) (h : Held) (x : Step) → Clean (step_fault s position h x)
step_is s position h step.value = found (arg_by_index s.rules position)
  where
    found : (o : Option Rule) → Clean (option_map_or (λ a. positional_fault s.rules s.args_override_self a h) o (stray_fault s))
    found None = stray s
    found (Some a) = choose (is_pending a h.pending && takes_several a) _ _ none (settle s.rules s.args_override_self h)
step_is s position h (step.next w) = none
step_is s position h (step.trailing n) = none
step_is s position h (step.subcommand name) = none

turn : (s : Shape) → s.disable_help_subcommand ≡ true → (names : Names) (w : Walk) (word : Text) → Clean (turn_fault s names w word)
turn s e names w word =
    let met = word_met s.rules names w.is_trailing w.waiting w.position word w.held in
    choose (is_some w.stopped) _ _ none
    (or _ _ (choose w.is_trailing _ _ none (other s e (subcommand_met names w.waiting word) word w.held)) (step_is s w.position met.0 met.1))

walk_is : (s : Shape) → s.disable_help_subcommand ≡ true → (names : Names) (w : Walk) (words : List Text) → Clean (walk_fault s names w words)
unfolding walk_fault
walk_is s e names w [] = none
walk_is s e names w (word ∷ words) = or _ _ (turn s e names w word) (walk_is s e names (walked s.rules names w word) words)

defaults : (rows : List Row) (rules : List Rule) → Clean (defaults_fault rows rules)
unfolding defaults_fault
defaults rows [] = none
defaults rows (a ∷ rest) = or _ _ (choose (has_row a.id rows || is_empty a.defaults) _ _ none (or _ _ (request (action_of a)) (values _ _ a.defaults))) (defaults (with_default rows a) rest)

check : (a b c : Bool) → Clean (check_kinds a b c)
check a b c = choose a _ _ (one _) (choose b _ _ (one _) (choose c _ _ (one _) none))

level : (s : Shape) → s.disable_help_subcommand ≡ true → (names : Names) (h : Held) (words : List Text) (has : Bool) (below : Kinds) → Clean below → Clean (level_fault s names h words has below)
level s e names h words has below b =
    let end = (walk s.rules names h words).held in
    or _ _ (walk_is s e names (walk_from h) words) (or _ _ b (or _ _ (settle s.rules s.args_override_self end) (or _ _ (defaults (settled s.rules end).rows s.rules) (check _ _ _))))

first : (a b : Bool) → (a && b) ≡ true → a ≡ true
first true b e = refl
first false b e = e

rest : (a b : Bool) → (a && b) ≡ true → b ≡ true
rest true b e = e
rest false true e = refl
rest false false e = e

here : (b : Bool) (s : Shape) (o : Option Shape) (f : Shape → Kinds) → Clean (f s) → Clean (option_map_or f o []) → Clean (option_map_or f (if b then Some s else o) [])
here true s o f h k = h
here false s o f h k = k

found : (subs : List Shape) → list_all (λ s. s.disable_help_subcommand) subs ≡ true → (p : Shape → Bool) (f : Shape → Kinds) → ((s : Shape) → s.disable_help_subcommand ≡ true → Clean (f s))
    → Clean (option_map_or f (find p subs) [])
found [] e p f h = none
found (s ∷ subs) e p f h = here (p s) s (find p subs) f (h s (first _ _ e)) (found subs (rest s.disable_help_subcommand _ e) p f h)

-- no command of it has `help` as a subcommand
pub clean : (a : App) → a.top.disable_help_subcommand ≡ true → list_all (λ s. s.disable_help_subcommand) a.subs ≡ true → (h : Held) (words : List Text) → Clean (built_fault a h words)
clean a e es h words =
    let stop = (walk a.top.rules (names_of a) h words).stopped in
    level a.top e (names_of a) h words (is_some (entered a stop)) (entered_fault a stop)
    (map_or stop _ (λ p. found a.subs es _ _ (λ s has. level s has [] nothing_held p.1 false [] none)))
