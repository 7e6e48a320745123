-- What is proved of frames. Assumes nothing.
use Rattle.std.proofs.Common.{◌≡◌, ℕ, ◌+◌, ◌*◌, ◌/◌, ◌≤◌, ◌<◌, List, ◌∷◌, ◌++◌, length, take, drop, nat_lt, true, false, inl, inr, sym, refl, ap, ◌∙◌, arith}
use Rattle.std.proofs.lemmas.Bool.{cases_lt, lt-ltb, le-ltb}
use Rattle.std.proofs.lemmas.Bool.Decides.{nat_tests}
use Rattle.std.proofs.lemmas.List.{drop_more, drop-drop, take-append-drop, length-take-le, length-drop, take_at, length-append, set_past}
use Rattle.std.proofs.lemmas.List.FromFn.{length-map-range_with_len, get_or-map-range_with_len}
use Rattle.std.proofs.lemmas.Option.{none-some}
use Rattle.frame.specs.Numbers.{low_first, Bytes}
use Rattle.frame.specs.Layout.{value_length, header_round_of, value_count_of, frame_length_of, header_of, frame_of, sender_in, round_in, payload_of, values_in}
use Rattle.frame.specs.Writing.{first_values, FirstFit}
use Rattle.frame.specs.Theorems.{Carried, written_frame, Taken, RoundTrip, ReceivedWhole, Exact, SaidOneWay, LengthsAreWithin, PutIsRead}
use Rattle.frame.specs.declared.turn.Turn.{Turn}
use Rattle.frame.specs.declared.reading.Reception.TheVariants.{Whole, TurnedAway}
use Rattle.frame.proofs.Counts.{values_at_most, values_at_least_one}
use Rattle.frame.proofs.Bytes.{number_written, bytes_read, take_bytes, drop_bytes, number_put}
use Rattle.frame.proofs.Payloads.{length-bytes_of, length-values_in, values_fit, values_written, payload_read}

-- what the checks say of a frame that they take
pub record Passed (t : Turn) (row : List ℕ) : Type 0 where
  pub length_is : length row ≡ frame_length_of t
  pub sender_is : sender_in row ≡ t.sender
  pub round_is : round_in row ≡ header_round_of t

passed : (t : Turn) (row : List ℕ) → Taken t row → Passed t row
passed t row taken = grind (arith, nat_tests)

taken_from : (t : Turn) (row : List ℕ) → Passed t row → Taken t row
taken_from t row p = grind (arith, nat_tests)

-- a row of bytes that is long enough is a header and a payload
header_and_payload : (row : List ℕ) → Bytes row → 5 ≤ length row → row ≡ sender_in row ∷ low_first 4 (round_in row) ++ payload_of row
header_and_payload row bytes h =
    let four = take 4 (drop 1 row) in
    let long : length four ≡ 4 = length-take-le 4 (drop 1 row) (omega (arith, length-drop 1 row)) in
    let round : low_first 4 (round_in row) ≡ four =
    ap (λ width. low_first width (round_in row)) (sym long) ∙ bytes_read four (take_bytes 4 (drop 1 row) (drop_bytes 1 row bytes)) in
    let rest : four ++ payload_of row ≡ drop 1 row = ap (λ t. four ++ t) (sym (drop-drop 4 1 row)) ∙ take-append-drop 4 (drop 1 row) in
    drop_more row 0 0 (omega arith) ∙ ap (λ t. sender_in row ∷ t) (sym rest ∙ ap (λ t. t ++ payload_of row) (sym round))

-- a frame of values that it can carry is taken
frame_taken : (t : Turn) (values : List ℕ) → Carried t values → Taken t (frame_of t values)
frame_taken t values carried =
    taken_from t (frame_of t values)
    (record {
      length_is = omega (arith, length-bytes_of values, carried.as_many);
      sender_is = refl;
      round_is = number_written 4 (header_round_of t) (omega arith);
    })

-- what is taken was written for the values that it has
taken_written : (t : Turn) (row : List ℕ) → Bytes row → Taken t row →
    Carried t (values_in (payload_of row)) × (row ≡ frame_of t (values_in (payload_of row)))
taken_written t row bytes taken =
    let p = passed t row taken in
    let long : length (payload_of row) ≡ value_length * value_count_of t = omega (arith, length-drop 5 row, p.length_is) in
    let many : length (payload_of row) / value_length ≡ value_count_of t = omega (arith, long) in
    let behind = drop_bytes 5 row bytes in (
      record {
        as_many = length-values_in (payload_of row) ∙ many;
        fit = values_fit (payload_of row) behind;
      },
      header_and_payload row bytes (omega (arith, p.length_is))
          ∙ rw (p.sender_is, p.round_is) (ap (λ payload. header_of t ++ payload) (sym (payload_read (payload_of row) (value_count_of t) behind long))),
    )

-- values that are given by their index, as a list
carried_values : (t : Turn) (value : ℕ → ℕ) → FirstFit value (value_count_of t) → Carried t (first_values value (value_count_of t))
carried_values t value fit =
    let count = value_count_of t in
    let many : length (first_values value count) ≡ count = length-map-range_with_len value 0 count in record {
      as_many = many;
      fit = λ k d h. let within : k < count = omega (arith, many, h) in rw (get_or-map-range_with_len value 0 count k k d within (omega arith)) (fit k within);
    }

pub round_trip : RoundTrip
round_trip t value memory fit =
    let values = first_values value (value_count_of t) in
    let carried = carried_values t value fit in
    let front : written_frame t value memory ≡ frame_of t values =
    take_at (frame_of t values) (drop (length (frame_of t values)) memory) (frame_length_of t) (omega (arith, length-bytes_of values, carried.as_many)) in
    record {
      carried = carried;
      written = front;
      taken = rw front (frame_taken t values carried);
      same_values = rw front (values_written values carried.fit);
    }

pub received_whole : ReceivedWhole
received_whole t value memory deviation (Whole ahead payload) fit (taken, same, rest) = (same, ap values_in rest ∙ (round_trip t value memory fit).same_values)
received_whole t value memory deviation (TurnedAway refusal) fit refused = none-some refusal (sym (round_trip t value memory fit).taken ∙ refused)

pub exact : Exact
exact t row bytes = (
  λ taken. let (carried, is) = taken_written t row bytes taken in (values_in (payload_of row), carried, is),
  λ written. let (values, carried, is) = written in rw is (frame_taken t values carried),
)

pub said_one_way : SaidOneWay
said_one_way t one two b c p q same =
    (taken_written t one b p).1 ∙ ap (frame_of t) same ∙ sym (taken_written t two c q).1

pub lengths : LengthsAreWithin
lengths t = record {
  first = λ first. rw first refl;
  second = λ second. rw second (omega arith);
  third = λ third. rw third (omega arith);
  fourth = λ fourth. rw fourth (omega arith);
  least = omega (arith, values_at_least_one t);
  most = omega (arith, values_at_most t);
  constants = (refl, refl, refl);
  longest = λ nodes last. rw (nodes, last);
}

pub put_is_read : PutIsRead
put_is_read index value payload h =
    elim (cases_lt index (length payload / value_length)) [
      | inl reaches ↦
          let test : nat_lt index (length payload / value_length) ≡ true = lt-ltb index (length payload / value_length) reaches in
          let front = take (value_length * index) payload ++ low_first value_length value in
          let rest = drop (value_length * index + value_length) payload in
          let kept : length (front ++ rest) ≡ length payload =
          omega (
            arith,
            length-append front rest,
            length-append (take (value_length * index) payload) (low_first value_length value),
            length-take-le (value_length * index) payload (omega (arith, reaches)),
            length-drop (value_length * index + value_length) payload,
            reaches,
          ) in
          rw (test, kept) (number_put value_length (length payload / value_length) payload index value reaches (omega arith) h)
      | inr past ↦
          let test : nat_lt index (length payload / value_length) ≡ false = le-ltb index (length payload / value_length) past in
          rw test (sym (set_past (values_in payload) index value (omega (arith, length-values_in payload, past))))
    ]
