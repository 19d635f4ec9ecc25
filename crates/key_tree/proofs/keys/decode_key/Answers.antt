use Rattle.std.proofs.Common.{◌≡◌, ◌++◌, List, ℕ, length, ◌∙◌, ap, sym, subst, arith}
use Rattle.std.specs.Prelude.{replicate, Err}
use Rattle.page_base.proofs.FormatLemmas.{IsBytes}
use Rattle.row_fmt.specs.declared.refusal.RowRefusal.{RowRefusal}
use Rattle.row_fmt.specs.Answers.{GivesRow}
use Rattle.row_fmt.specs.Rows.{null_bytes}
use Rattle.tree_laws.specs.Keys.{no_nulls}
use Rattle.key_tree.proofs.KeyLemmas.{key_read, key_none, zeros_front}
use Rattle.key_tree.proofs.keys.decode_key.Goals as goal

-- the bytes that are decoded
bytes_are : (keys : ℕ) (zeros bytes row all : List ℕ) (len ceil : ℕ) → zeros ≡ replicate ceil 0 → ceil ≡ null_bytes keys → row ≡ zeros ++ bytes → all ≡ row → all ≡ no_nulls keys ++ bytes
bytes_are keys zeros bytes row all len ceil z n r a = a ∙ r ∙ ap (λ (xs : List ℕ). xs ++ bytes) (z ∙ ap (λ (k : ℕ). replicate k 0) n)

pub returns-in-Ok : goal.returns-in-Ok
returns-in-Ok c =
    let n : c.div_ceil.result ≡ null_bytes (length c.args.keys.now) = omega (arith, c.div_ceil.ensures, c.len.ensures) in
    let is = bytes_are (length c.args.keys.now) c.in_ok-row.row.items c.args.bytes.now c.extend_from_slice.new.self.items c.as_slice.result.now c.len.result c.div_ceil.result
    (c.in_ok-row.ensures.items_if_clones_equal (λ y e. e)) n c.in_ok-extend_from_slice.ensures.items c.as_slice.ensures.value in
    key_read c.args.keys.now c.args.bytes.now c.as_slice.result.now c.in-Ok.key is c.in-Ok.ensures.row

pub returns-in-Err-Form : goal.returns-in-Err-Form
returns-in-Err-Form c =
    let n : c.div_ceil.result ≡ null_bytes (length c.args.keys.now) = omega (arith, c.div_ceil.ensures, c.len.ensures) in
    let is = bytes_are (length c.args.keys.now) c.in_ok-row.row.items c.args.bytes.now c.extend_from_slice.new.self.items c.as_slice.result.now c.len.result c.div_ceil.result
    (c.in_ok-row.ensures.items_if_clones_equal (λ y e. e)) n c.in_ok-extend_from_slice.ensures.items c.as_slice.ensures.value in
    let h : IsBytes c.args.bytes.now = λ i. omega (arith, c.type_inv.bytes i) in
    key_none c.args.keys.now c.args.bytes.now c.as_slice.result.now is (subst IsBytes (sym is) (zeros_front (null_bytes (length c.args.keys.now)) c.args.bytes.now h))
    (λ key r. subst (λ (e : RowRefusal). GivesRow key (Err e)) c.in-Err-Form.field-0-is (c.in-Err-Form.ensures.only key r))
