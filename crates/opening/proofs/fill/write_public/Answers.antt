use Rattle.std.proofs.Common.{◌≡◌, ℕ, ◌+◌, ◌-◌, ◌*◌, ◌≤◌, List, ◌++◌, length, take, drop, sym, refl, ap, ◌∙◌, arith, length-drop}
use borrow.Rule.Slice.PartMut.{put_mid}
use Rattle.std.proofs.lemmas.List.FromFn.{length-map-range_with_len}
use Rattle.std.proofs.lemmas.List.{length-take-le}
use Rattle.wires.specs.declared.Circuit.{Circuit}
use Rattle.wires.specs.Wires.{Wiring}
use Rattle.wires.specs.Read.{wiring_of}
use Rattle.circuit.specs.Public.{public_byte, public_arrays}
use Rattle.form.specs.Layout.{size_bytes}
use Rattle.opening.proofs.Regions.{length_part, front_more}
use Rattle.opening.proofs.fill.write_public.Goals as goal

pub returns : goal.returns
returns c =
    let circuit : Wiring = wiring_of c.args.table.now.circuit in
    let n : ℕ = circuit.wires in
    let sizes : List ℕ = size_bytes n circuit.inputs c.args.table.now.garbled c.args.table.now.outputs in
    let rest : List ℕ = drop 8 c.args.form.now in
    let sized : c.copy_from_slice.new.self ≡ sizes = c.copy_from_slice.ensures.after ∙ c.size_bytes.ensures in
    let long : length (sizes ++ rest) ≡ length c.args.form.now =
    let left = length-drop 8 c.args.form.now in let room = c.requires in omega (arith, left, room) in
    let part : 8 + 5 * c.from.result - 8 ≡ 5 * n =
    let end = c.from.ensures ∙ ap (λ (k : Circuit). k.wires) c.circuit-circuit.ensures in omega (arith, end) in
    let wide : length (take (8 + 5 * c.from.result - 8) (drop 8 (c.copy_from_slice.new.self ++ rest))) ≡ 5 * n =
    (λ i. length (take (part i) (drop 8 (sized i ++ rest))))
    ∙ length-take-le (5 * n) (drop 8 (sizes ++ rest)) (let left = length-drop 8 (sizes ++ rest) in let room = c.requires in omega (arith, left, long, room)) in
    let arrays : c.public_arrays.new.arrays ≡ public_arrays circuit =
    c.public_arrays.ensures.whole (wide ∙ ap (λ (k : Circuit). 5 * k.wires) (sym c.circuit-circuit.ensures))
    ∙ ap (λ (k : Circuit). public_arrays (wiring_of k)) c.circuit-circuit.ensures in
    let count : length (public_arrays circuit) ≡ 5 * n = length-map-range_with_len (public_byte circuit) 0 (5 * n) in
    let written : _ ≡ put_mid 8 (5 * n) (sizes ++ rest) (public_arrays circuit) =
    λ i. put_mid 8 (part i) (sized i ++ rest) (arrays i) in
    let room : 8 + 5 * n ≤ length (sizes ++ rest) = let enough = c.requires in omega (arith, long, enough) in
    record {
      front = ap (take (8 + 5 * n)) written ∙ front_more 8 (5 * n) (sizes ++ rest) (public_arrays circuit) sizes refl (omega (arith, room)) count;
      len = ap length written ∙ length_part 8 (5 * n) (sizes ++ rest) (public_arrays circuit) room count ∙ long;
    }
