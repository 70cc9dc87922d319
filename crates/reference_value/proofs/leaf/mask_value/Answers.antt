use Rattle.std.proofs.Common.{◌≡◌, ◌∙◌, List, ℕ, length, ap, arith}
use Rattle.lms_bytes.specs.Bytes.{xor, bytes_at}
use Rattle.reference_value.proofs.Xor.{length-xor}
use Rattle.reference_value.proofs.leaf.mask_value.Goals as goal

-- what is written, and its length
value_is : (out mask bytes part made value written : List ℕ) (place : ℕ) → bytes ≡ mask → part ≡ bytes_at out place (length bytes) → length part ≡ length bytes
    → made ≡ part → value ≡ xor made mask → written ≡ value → (written ≡ xor (bytes_at out place (length mask)) mask) × (length written ≡ length mask)
value_is out mask bytes part made value written place a b size d e f =
    let same : part ≡ bytes_at out place (length mask) = rw (← a) b in
    let is : written ≡ xor part mask = cc in
    let long : length part ≡ length mask = rw (← a) size in
    (rw (← same) is, ap length is ∙ (length-xor part mask long ∙ long))

pub put-requires : goal.put-requires
put-requires c =
    let v = value_is c.args.out.now c.args.mask.now _ _ _ _ c.bytes-2.result.now c.args.place c.bytes.ensures.bytes c.part.ensures.bytes c.part.ensures.length c.of.ensures c.xor-value.ensures c.bytes-2.ensures.bytes in
    omega (arith, v.1)

pub returns-clause-front : goal.returns-clause-front
returns-clause-front c =
    let v = value_is c.args.out.now c.args.mask.now _ _ _ _ c.bytes-2.result.now c.args.place c.bytes.ensures.bytes c.part.ensures.bytes c.part.ensures.length c.of.ensures c.xor-value.ensures c.bytes-2.ensures.bytes in
    rw (← v.0) (rw v.1 at c.put.ensures.front)

pub returns-clause-after : goal.returns-clause-after
returns-clause-after c =
    let v = value_is c.args.out.now c.args.mask.now _ _ _ _ c.bytes-2.result.now c.args.place c.bytes.ensures.bytes c.part.ensures.bytes c.part.ensures.length c.of.ensures c.xor-value.ensures c.bytes-2.ensures.bytes in
    rw v.1 at c.put.ensures.after
