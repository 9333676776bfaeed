-- The records of a text by their lines: an entry has the number of the line that gives it, and behind the openings stand entries and the close.
use Rattle.std.specs.Prelude.{◌≡◌, ◌⊎◌, ℕ, suc, ℤ, length, get_or}
use Rattle.std.proofs.Math.Path.{refl}
use Rattle.std.proofs.Common.{sym, ◌∙◌, ap, subst, inl, inr, ⊎_elim, arith}
use mathlib.Core.List.Memᴰ
use mathlib.Core.List.{List, [], ◌∷◌, ◌++◌, Memᴰ}
use Rattle.units.specs.declared.Input.{Input}
use Rattle.units.specs.declared.Reading.{Reading}
use Rattle.run.specs.Places.{Place, input_at, reading_at}
use Rattle.records.specs.Record.{Sizes, Entry, Record, opening, entry, close, Labelled, at_label}
use Rattle.record.specs.declared.Record.TheVariants.{Opening, Point, Value, Close}
use Rattle.spoken.specs.declared.Said.{Said}
use Rattle.spoken.specs.declared.Said.TheVariants.{Nothing, Item, Unclear}
use Rattle.text.specs.Text.{opening_at, entry_at, gathered, text}
use Rattle.text.specs.Numbered.{Line, line_later, line_here}

-- ---- what the lines bring
-- the line gives this number at the place
abbrev pub Gives : Said → Place → ℤ → Type 0
Gives h (input_at i) v = (x : Input) × (h ≡ Item (Point i x)) × (x.count ≡ v)
Gives h (reading_at s c i) v = (y : Reading) × (h ≡ Item (Value s c i y)) × (y.count ≡ v)

-- no record, or one that is labelled k
abbrev pub OneAt : (k : ℕ) → (Record → Type 0) → List Labelled → Type 0
OneAt k P xs = (xs ≡ []) ⊎ ((r : Record) × (xs ≡ at_label k r ∷ []) × P r)

-- a line brings one record at most, which is labelled by its number
abbrev pub Brings : (ℕ → Said → List Labelled) → (Said → Record → Type 0) → Type 0
Brings f P = (k : ℕ) (h : Said) → OneAt k (P h) (f k h)

abbrev pub Opens : Said → Record → Type 0
Opens h r = (z : Sizes) × (r ≡ opening z)

abbrev pub Enters : Said → Record → Type 0
Enters h r = (e : Entry) × (r ≡ entry e) × Gives h e.place e.number

pub opening_brings : Brings opening_at Opens
opening_brings k Nothing = inl refl
opening_brings k (Item (Opening z)) = inr (opening z, refl, (z, refl))
opening_brings k (Item (Point i x)) = inl refl
opening_brings k (Item (Value s c i y)) = inl refl
opening_brings k (Item Close) = inl refl
opening_brings k Unclear = inl refl

pub entry_brings : Brings entry_at Enters
entry_brings k Nothing = inl refl
entry_brings k (Item (Opening z)) = inl refl
entry_brings k (Item (Point i x)) = let e : Entry = record { place = input_at i; number = x.count } in inr (entry e, refl, (e, refl, (x, refl, refl)))
entry_brings k (Item (Value s c i y)) = let e : Entry = record { place = reading_at s c i; number = y.count } in inr (entry e, refl, (e, refl, (y, refl, refl)))
entry_brings k (Item Close) = inl refl
entry_brings k Unclear = inl refl

module _ (f : ℕ → Said → List Labelled) (P : Said → Record → Type 0) (brings : Brings f P) where
  -- what is gathered has the number of the line that brings it
  pub gathered_line : (k : ℕ) (hs : List Said) (x : Labelled) → Memᴰ x (gathered f k hs) → Line k hs x.label (λ h. P h x.it)
  unfolding gathered
  gathered_line k [] x m = absurd (Memᴰ.not-nil m)
  gathered_line k (h ∷ hs) x m = go (Memᴰ.append_cases (f k h) m) (brings k h) (gathered_line (suc k) hs x)
    where
      go : Memᴰ x (f k h) ⊎ Memᴰ x (gathered f (suc k) hs) → OneAt k (P h) (f k h)
          → (Memᴰ x (gathered f (suc k) hs) → Line (suc k) hs x.label (λ g. P g x.it)) → Line k (h ∷ hs) x.label (λ g. P g x.it)
      go (inr n) b later = line_later (later n)
      go (inl n) (inl e) later = absurd (Memᴰ.not-nil (subst (Memᴰ x) e n))
      go (inl n) (inr b) later =
          let e : x ≡ at_label k b.0 = Memᴰ.eq_of_singleton (subst (Memᴰ x) b.1 n) in
          line_here (ap (λ (y : Labelled). y.label) e) (subst (P h) (sym (ap (λ (y : Labelled). y.it) e)) b.2)

  -- what passes over each of them passes over all
  pub gathered_passed : {A : Type 0} (F : List Labelled → A) → ((k : ℕ) (h : Said) (r : Record) (xs : List Labelled) → P h r → F (at_label k r ∷ xs) ≡ F xs)
      → (k : ℕ) (hs : List Said) (ys : List Labelled) → F (gathered f k hs ++ ys) ≡ F ys
  unfolding gathered
  gathered_passed F pass k [] ys = refl
  gathered_passed F pass k (h ∷ hs) ys = go (brings k h) (gathered_passed F pass (suc k) hs ys)
    where
      go : OneAt k (P h) (f k h) → F (gathered f (suc k) hs ++ ys) ≡ F ys → F ((f k h ++ gathered f (suc k) hs) ++ ys) ≡ F ys
      go (inl e) later = rw e later
      go (inr b) later = rw b.1 (pass k h b.0 (gathered f (suc k) hs ++ ys) b.2 ∙ later)

-- ---- the records of a text
pub not_opening : {z : Sizes} {e : Entry} → opening z ≡ entry e → ⊥
not_opening q = let w : ◌≡◌ {A = ℕ} 0 1 = cc in omega arith

pub opening_open : {z : Sizes} → opening z ≡ close → ⊥
opening_open q = let w : ◌≡◌ {A = ℕ} 0 1 = cc in omega arith

pub entry_open : {e : Entry} → entry e ≡ close → ⊥
entry_open q = let w : ◌≡◌ {A = ℕ} 0 1 = cc in omega arith

module _ (hs : List Said) where
  abbrev pub openings : List Labelled
  openings = gathered opening_at 1 hs

  abbrev pub entries : List Labelled
  entries = gathered entry_at 1 hs

  abbrev pub last : List Labelled
  last = at_label (length hs) close ∷ []

  pub opened_by : (x : Labelled) → Memᴰ x openings → Line 1 hs x.label (λ h. Opens h x.it)
  opened_by x m = gathered_line opening_at Opens opening_brings 1 hs x m

  pub entered_by : (x : Labelled) → Memᴰ x entries → Line 1 hs x.label (λ h. Enters h x.it)
  entered_by x m = gathered_line entry_at Enters entry_brings 1 hs x m

  pub last_close : (x : Labelled) → Memᴰ x last → x.it ≡ close
  last_close x m = ap (λ (y : Labelled). y.it) (Memᴰ.eq_of_singleton m)

  -- behind the openings stand entries and the close
  pub entry_or_close : (x : Labelled) → Memᴰ x (entries ++ last) → ((e : Entry) × (x.it ≡ entry e)) ⊎ (x.it ≡ close)
  entry_or_close x m = ⊎_elim (λ n. let a = (entered_by x n).holds in inl (a.0, a.1)) (λ n. inr (last_close x n)) (Memᴰ.append_cases entries m)

  -- an entry has the number of the line that gives it
  pub entry_line : (x : Labelled) (e : Entry) → Memᴰ x (text hs).records → x.it ≡ entry e → Line 1 hs x.label (λ h. Gives h e.place e.number)
  entry_line x e m q =
      ⊎_elim (λ n. absurd (not_opening (sym (opened_by x n).holds.1 ∙ q)))
      (λ n. ⊎_elim (λ a. entered (entered_by x a)) (λ c. absurd (entry_open (sym q ∙ last_close x c))) (Memᴰ.append_cases entries n))
      (Memᴰ.append_cases openings m)
    where
      entered : Line 1 hs x.label (λ h. Enters h x.it) → Line 1 hs x.label (λ h. Gives h e.place e.number)
      entered f =
          let a = f.holds in
          let r : entry a.0 ≡ entry e = sym a.1 ∙ q in
          let same : a.0 ≡ e = cc in
          record { index = f.index; is = f.is; holds = subst (λ (d : Entry). Gives (get_or hs f.index Nothing) d.place d.number) same a.2 }
