-- The view of a store in memory: its files, and which of its calls fail.
use Rattle.std.specs.Prelude.{◌≡◌, ◌⊎◌, ℕ, ◌-◌, Bool, false, true, ◌&&◌, nat_le, nat_lt, if◌then◌else◌, refl, List, Result, Ok, Err}
use Rattle.std.specs.Coded.{Coded, code_by, coded×, coded_ℕ, coded_list, coded_bool}
use Rattle.std.specs.FinMap.{code, insert, empty}
use Rattle.meson_store.specs.StoreCalls.{one_more}
use Rattle.meson_store.specs.Content.{Content}
use Rattle.meson_store.specs.declared.store.StoreError.{StoreError}
use Rattle.meson_store.specs.declared.store.StoreError.TheVariants as error

-- calls of one kind, counted from 1: `made` were made, and the `count` calls from call `first` on fail
pub record Calls : Type 0 where
  pub made : ℕ
  pub first : ℕ
  pub count : ℕ

pub record HeldFiles : Type 0 where
  pub files : Content
  pub failures : ℕ
  pub reads : Calls
  pub replaces : Calls
  -- the next failing `replace` leaves its new bytes
  pub leaves_new : Bool
  -- a failing `replace` knows that its file is as it was
  pub is_sure : Bool

abbrev calls_code : Coded Calls
calls_code = code_by (ℕ × (ℕ × ℕ)) (coded× coded_ℕ (coded× coded_ℕ coded_ℕ))
    (λ c. (c.made, (c.first, c.count))) (λ p. record { made = p.0; first = p.1.0; count = p.1.1 }) (λ _. refl)

abbrev plans_code : Coded (Calls × (Calls × (Bool × Bool)))
plans_code = coded× calls_code (coded× calls_code (coded× coded_bool coded_bool))

abbrev pub held_code : Coded HeldFiles
held_code = code_by ((Content × ℕ) × (Calls × (Calls × (Bool × Bool))))
    (coded× (coded× (code (coded_list coded_ℕ) (coded_list coded_ℕ)) coded_ℕ) plans_code)
    (λ h. ((h.files, h.failures), (h.reads, (h.replaces, (h.leaves_new, h.is_sure)))))
    (λ p. record { files = p.0.0; failures = p.0.1; reads = p.1.0; replaces = p.1.1.0; leaves_new = p.1.1.1.0; is_sure = p.1.1.1.1 })
    (λ _. refl)

abbrev pub counted : Calls → Calls
counted c = record c { made = one_more c.made }

-- the call of that number is one of the `count` calls from call `first` on
abbrev pub is_planned : ℕ → ℕ → ℕ → Bool
is_planned first count call = nat_le first call && nat_lt (call - first) count

-- the next call fails
abbrev pub is_due : Calls → Bool
is_due c = is_planned c.first c.count (one_more c.made)

abbrev pub with_failures : Calls → ℕ → ℕ → Calls
with_failures c first count = record c { first = first; count = count }

-- a failing call was counted as a failure
abbrev pub failures_after : Calls → ℕ → ℕ
failures_after c failures = if is_due c then one_more failures else failures

-- a new store
abbrev pub no_files : HeldFiles
no_files = record {
  files = empty;
  failures = 0;
  reads = record { made = 0; first = 1; count = 0 };
  replaces = record { made = 0; first = 1; count = 0 };
  leaves_new = false;
  is_sure = false;
}

-- after a `read`, whatever it answers
abbrev pub after_read : HeldFiles → HeldFiles
after_read h = record h { reads = counted h.reads; failures = failures_after h.reads h.failures }

-- after a `replace`, but for the bytes that its file may have got
abbrev pub after_replace : HeldFiles → HeldFiles
after_replace h = record h {
  replaces = counted h.replaces;
  failures = failures_after h.replaces h.failures;
  leaves_new = if is_due h.replaces then false else h.leaves_new;
}

-- if the file of that name has these bytes
abbrev pub with_file : HeldFiles → List ℕ → List ℕ → HeldFiles
with_file h name bytes = record h { files = insert h.files name bytes }

-- ---- a call of `replace`

-- what it may answer: it fails as planned, or when out of memory for the new bytes
abbrev pub MayAnswer : HeldFiles → Result (Unit {0}) StoreError → Type 0
MayAnswer h (Ok done) = is_due h.replaces ≡ false
MayAnswer h (Err error.Device) = (is_due h.replaces ≡ true) × (h.is_sure ≡ false)
MayAnswer h (Err error.Unchanged) = (is_due h.replaces ≡ true) × (h.is_sure ≡ true)
MayAnswer h (Err error.OutOfMemory) = (is_due h.replaces ≡ false) ⊎ (h.leaves_new ≡ true)

-- the store after one that answered so
abbrev pub replaced_so : HeldFiles → List ℕ → List ℕ → Result (Unit {0}) StoreError → HeldFiles
replaced_so h name bytes (Ok done) = with_file (after_replace h) name bytes
replaced_so h name bytes (Err error.Device) = if h.leaves_new then with_file (after_replace h) name bytes else after_replace h
replaced_so h name bytes (Err error.Unchanged) = after_replace h
replaced_so h name bytes (Err error.OutOfMemory) = after_replace h
