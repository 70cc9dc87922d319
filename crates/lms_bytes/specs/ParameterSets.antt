-- The tables of parameter sets: RFC 8554, and SP 800-208 for the hash length of 24 bytes.
use Rattle.std.specs.Prelude.{ℕ, ◌+◌, ◌-◌, ◌*◌, ◌/◌, ◌^◌, ◌<◌, ◌≤◌, Option, Some, None, ◌==◌, if◌then◌else◌}
use Rattle.lms_bytes.specs.HashLength.{IsHashLength, IsDigitWidth}
use Rattle.lms_bytes.specs.declared.params.LmotsRow.{LmotsRow}
use Rattle.lms_bytes.specs.declared.params.LmsRow.{LmsRow}

-- the row of an LM-OTS typecode (RFC 8554 section 4.1, SP 800-208 section 4)
unfoldable pub lmots_row : ℕ → Option LmotsRow
lmots_row code =
    if code == 1 then Some (record { n = 32; w = 1; p = 265; ls = 7 }) else
    if code == 2 then Some (record { n = 32; w = 2; p = 133; ls = 6 }) else
    if code == 3 then Some (record { n = 32; w = 4; p = 67; ls = 4 }) else
    if code == 4 then Some (record { n = 32; w = 8; p = 34; ls = 0 }) else
    if code == 5 then Some (record { n = 24; w = 1; p = 200; ls = 8 }) else
    if code == 6 then Some (record { n = 24; w = 2; p = 101; ls = 6 }) else
    if code == 7 then Some (record { n = 24; w = 4; p = 51; ls = 4 }) else
    if code == 8 then Some (record { n = 24; w = 8; p = 26; ls = 0 }) else
    None

-- the row of an LMS typecode (RFC 8554 section 5.1, SP 800-208 section 4)
unfoldable pub lms_row : ℕ → Option LmsRow
lms_row code =
    if code == 5 then Some (record { m = 32; h = 5 }) else
    if code == 6 then Some (record { m = 32; h = 10 }) else
    if code == 7 then Some (record { m = 32; h = 15 }) else
    if code == 8 then Some (record { m = 32; h = 20 }) else
    if code == 9 then Some (record { m = 32; h = 25 }) else
    if code == 10 then Some (record { m = 24; h = 5 }) else
    if code == 11 then Some (record { m = 24; h = 10 }) else
    if code == 12 then Some (record { m = 24; h = 15 }) else
    if code == 13 then Some (record { m = 24; h = 20 }) else
    if code == 14 then Some (record { m = 24; h = 25 }) else
    None

-- the bounds that hold of every row of an LM-OTS typecode
pub record LmotsBounds (code : ℕ) (row : LmotsRow) : Type 0 where
  pub hash_length : IsHashLength row.n
  pub digit_width : IsDigitWidth row.w
  pub small : code ≤ 8
  pub checksum_shift : row.ls ≤ 8
  pub digest_digits : 8 * row.n / row.w ≤ row.p
  pub checksum_digits : row.p * row.w ≤ 8 * row.n + 16
  pub checksum_fits : 8 * row.n / row.w * (2 ^ row.w - 1) * 2 ^ row.ls < 2 ^ 16
  pub chains_length : row.p * row.n ≤ 8480
  pub digit_count : 2 ^ row.w ≤ 256
