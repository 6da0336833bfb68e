-- The octets that a reader of lines holds.
use Rattle.std.proofs.Common.{◌≡◌, ℕ, ◌+◌, ◌-◌, ◌≤◌, List, ◌++◌, length, take, drop, slice_range, length-take, length-drop}
use Rattle.std.proofs.Common.{Result, Ok, Err, sym, ◌∙◌, ap, arith}
use Rattle.std.proofs.lemmas.List.{append-nil, drop-append-le, drop-drop, drop-take, take-append-le, take-take}
use Rattle.std.proofs.Math.Seq.{take-append-add}
use Rattle.plc_base.specs.declared.streams.Failed.{Failed}
use Rattle.std.specs.Io.{ReadsAtMost}
use Rattle.plc_base.specs.Streams.{SourceState, Reads}
use Rattle.plc_base.proofs.SourceLemmas.{one_read, ends_there}
use Rattle.script_lines.specs.Next.{Fills, count_read}

-- the first octets of a range
pub range_front : (xs : List ℕ) (first end n : ℕ) → n ≤ end - first → slice_range xs first (first + n) ≡ take n (slice_range xs first end)
range_front xs first end n within =
    let count : first + n - first ≡ n = omega arith in
    ap (λ k. take k (drop first xs)) count ∙ sym (take-take n (end - first) (drop first xs) within)

-- and what is left after them
pub range_rest : (xs : List ℕ) (first end used : ℕ) → used ≤ end - first → slice_range xs (first + used) end ≡ drop used (slice_range xs first end)
range_rest xs first end used within =
    let left : ℕ = end - (first + used) in
    let sum : end - first ≡ used + left = omega (arith, within) in
    sym (ap (λ n. drop used (take n (drop first xs))) sum ∙ drop-take used left (drop first xs) ∙ ap (take left) (drop-drop used first xs))

-- a range that grew by the first octets of what was written behind it
range_grown : (xs buf rest : List ℕ) (first end n : ℕ) → first ≤ end → end ≤ length xs → n ≤ length buf
    → slice_range (take end xs ++ (buf ++ rest)) first (end + n) ≡ slice_range xs first end ++ take n buf
range_grown xs buf rest first end n order within fits =
    let range : List ℕ = slice_range xs first end in
    let long : length range ≡ end - first = omega (arith, length-take (end - first) (drop first xs), length-drop first xs, within) in
    let sum : end + n - first ≡ length range + n = omega (arith, long, order) in
    let whole : first + (end - first) ≡ end = omega (arith, order) in
    let front : drop first (take end xs) ≡ range = ap (λ k. drop first (take k xs)) (sym whole) ∙ drop-take first (end - first) xs in
    ap (λ k. take k (drop first (take end xs ++ (buf ++ rest)))) sum
    ∙ ap (take (length range + n)) (drop-append-le first (take end xs) (buf ++ rest) (omega (arith, length-take end xs, order, within)))
    ∙ ap (λ (l : List ℕ). take (length range + n) (l ++ (buf ++ rest))) front
    ∙ take-append-add range (buf ++ rest) n
    ∙ ap (λ (l : List ℕ). range ++ l) (take-append-le n buf rest fits)

-- a read behind a range
pub read_fills : {source0 source1 : SourceState} (xs buf rest : List ℕ) (first end : ℕ) (r : Result ℕ Failed) → first ≤ end → end ≤ length xs
    → ReadsAtMost r buf → Reads source0 source1 r buf
    → Fills source0 source1 (slice_range xs first end) (slice_range (take end xs ++ (buf ++ rest)) first (end + count_read r)) r
read_fills xs buf rest first end (Ok n) order within bound read = record {
  given = record {
    octets = take n buf;
    gave = record { given = read.given; left = read.bytes.0 };
    grown = range_grown xs buf rest first end n order within bound.0;
    counted = omega (arith, length-take n buf, bound.0);
  };
  over = ends_there n read;
  kept = tt;
  faults = one_read read;
}
read_fills xs buf rest first end (Err e) order within bound read = record {
  given = tt;
  over = tt;
  kept = (
    range_grown xs buf rest first end 0 order within (omega arith) ∙ append-nil (slice_range xs first end),
    record { given = read.given; left = read.bytes },
  );
  faults = one_read read;
}
