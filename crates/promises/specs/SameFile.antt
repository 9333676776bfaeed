-- Runs that are the same within have one file, and what writing it into a buffer gives is the same.
use Rattle.std.specs.Prelude.{◌≡◌, refl, true, List, [], ◌∷◌, ◌++◌, map, ℕ, ◌<◌, ◌≤◌, ℤ, length, drop}
use Rattle.std.proofs.Common.{sym, ap, ap₂, ◌∙◌, arith, ltb-true}
use Rattle.std.proofs.Math.Decide.{dec_lt}
use Rattle.units.specs.Units.{an_input, a_reading}
use Rattle.limits.specs.declared.Sizes.{Sizes}
use Rattle.run.specs.Run.{sizes}
use Rattle.run.specs.Places.{Place, input_at, reading_at, within, places}
use Rattle.run.specs.PlaceLaws.{and_true, among, among_first, among_later, among_places}
use Rattle.run.specs.Checks.{verdict}
use Rattle.run.specs.declared.Run.{Run}
use Rattle.record.specs.declared.Record.{Record}
use Rattle.record.specs.declared.Record.TheVariants.{Point, Value}
use Rattle.writer.specs.File.{record_of, framed, file, written, buffer_after}
use Rattle.writer.specs.WrittenLaws.{written_short, written_full, after_short, after_full}
use Rattle.promises.specs.Demand2.{SameWithin}

-- records that agree at each place of a list
records_same : (f g : Place → Record) (ps : List Place) → ((p : Place) → among p ps ≡ true → f p ≡ g p) → map f ps ≡ map g ps
records_same f g [] h = refl
records_same f g (p ∷ ps) h = ap₂ ◌∷◌ (h p (among_first p ps)) (records_same f g ps (λ o k. h o (among_later o p ps k)))

module _ {r q : Run} (e : SameWithin r q) where
  -- the record at a place of the run
  record_same : (p : Place) → within (sizes q) p ≡ true → record_of r p ≡ record_of q p
  record_same (input_at i) k = ap (λ (x : ℤ). Point i (an_input x)) (e.inputs i (ltb-true i q.m k))
  record_same (reading_at s c i) k =
      let a = and_true k in
      let b = and_true a.1 in
      ap (λ (y : ℤ). Value s c i (a_reading y)) (e.readings s c i (ltb-true s q.strokes a.0) (ltb-true c q.n b.0) (ltb-true i q.m b.1))

  pub same_file : file r ≡ file q
  same_file =
      (λ j. let z : Sizes = record { m = e.m j; n = e.n j; strokes = e.strokes j } in framed z (map (record_of r) (places z)))
      ∙ ap (framed (sizes q)) (records_same (record_of r) (record_of q) (places (sizes q)) (λ p k. record_same p (sym (among_places (sizes q) p) ∙ k)))

  -- ---- written into a buffer, where no check refuses the runs
  module _ (v : (verdict r).number ≡ 0) (v' : (verdict q).number ≡ 0) (buffer : List ℕ) where
    by_room : {P : Type 0} → (length buffer < length (file r) → length buffer < length (file q) → P) → (length (file r) ≤ length buffer → length (file q) ≤ length buffer → P) → P
    by_room {P} short full = go (ap length same_file) (dec_lt (length buffer) (length (file r)))
      where
        go : length (file r) ≡ length (file q) → Dec (length buffer < length (file r)) → P
        go k (yes h) = short h (omega arith)
        go k (no h) = full (omega arith) (omega arith)

    pub same_written : written r buffer ≡ written q buffer
    same_written = by_room
        (λ h k. written_short r buffer v h ∙ sym (written_short q buffer v' k))
        (λ h k. written_full r buffer v h ∙ ap (λ (f : List ℕ). record { number = 0; place = 0; len = length f }) same_file ∙ sym (written_full q buffer v' k))

    pub same_after : buffer_after r buffer ≡ buffer_after q buffer
    same_after = by_room
        (λ h k. after_short r buffer v h ∙ sym (after_short q buffer v' k))
        (λ h k. after_full r buffer v h ∙ ap (λ (f : List ℕ). f ++ drop (length f) buffer) same_file ∙ sym (after_full q buffer v' k))
