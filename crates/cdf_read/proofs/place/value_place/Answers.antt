use Rattle.std.proofs.Common.{◌≡◌, arith, get_or, true, false, sym, ◌∙◌}
use Rattle.std.proofs.lemmas.Option.{slice_get_within}
use Rattle.cdf_read.specs.declared.head.HeadVar.{HeadVar}
use Rattle.cdf_read.specs.Places.{value_size, is_record_var}
use Rattle.cdf_read.specs.ValueLaws.{value_stands, place_in_record, place_alone, place_found}
use Rattle.cdf_read.proofs.place.value_place.Goals as goal

pub bounds-as_slice-var : goal.bounds-as_slice-var
bounds-as_slice-var c = rw c.as_slice.ensures (slice_get_within c.args.header.now.vars c.args.var c.requires.value.variable c.requires.value.found)

pub overflow_mul-value : goal.overflow_mul-value
overflow_mul-value c =
    let h = c.args.header.now in
    let v : HeadVar = c.index-as_slice-var.result in
    let at : v ≡ get_or h.vars c.args.var v = rw (← c.as_slice.ensures) c.index-as_slice-var.is in
    let stands = value_stands h v c.args.var c.args.rec c.args.i c.requires.header c.requires.value at in
    let size : c.from.result ≡ value_size v.kind = c.from.ensures ∙ c.size_of_value.ensures.value in
    rw size (omega (arith, stands.value))

pub overflow_mul-result : goal.overflow_mul-result
overflow_mul-result c =
    let h = c.args.header.now in
    let v : HeadVar = c.index-as_slice-var.result in
    let at : v ≡ get_or h.vars c.args.var v = rw (← c.as_slice.ensures) c.index-as_slice-var.is in
    let stands = value_stands h v c.args.var c.args.rec c.args.i c.requires.header c.requires.value at in
    let records : is_record_var h.dims v ≡ true = rw (← c.as_slice-2.ensures) (sym c.is_in_records.ensures ∙ c.if-is_in_records.true) in
    omega (arith, stands.in_record records)

pub overflow_add-result : goal.overflow_add-result
overflow_add-result c =
    let h = c.args.header.now in
    let v : HeadVar = c.index-as_slice-var.result in
    let at : v ≡ get_or h.vars c.args.var v = rw (← c.as_slice.ensures) c.index-as_slice-var.is in
    let stands = value_stands h v c.args.var c.args.rec c.args.i c.requires.header c.requires.value at in
    let records : is_record_var h.dims v ≡ true = rw (← c.as_slice-2.ensures) (sym c.is_in_records.ensures ∙ c.if-is_in_records.true) in
    omega (arith, stands.in_record records)

pub overflow_add-result-then-is_in_records : goal.overflow_add-result-then-is_in_records
overflow_add-result-then-is_in_records c =
    let h = c.args.header.now in
    let v : HeadVar = c.index-as_slice-var.result in
    let at : v ≡ get_or h.vars c.args.var v = rw (← c.as_slice.ensures) c.index-as_slice-var.is in
    let stands = value_stands h v c.args.var c.args.rec c.args.i c.requires.header c.requires.value at in
    let records : is_record_var h.dims v ≡ true = rw (← c.as_slice-2.ensures) (sym c.is_in_records.ensures ∙ c.if-is_in_records.true) in
    let size : c.from.result ≡ value_size v.kind = c.from.ensures ∙ c.size_of_value.ensures.value in
    rw size (omega (arith, stands.in_record records))

pub returns-then-is_in_records : goal.returns-then-is_in_records
returns-then-is_in_records c =
    let h = c.args.header.now in
    let v : HeadVar = c.index-as_slice-var.result in
    let at : v ≡ get_or h.vars c.args.var v = rw (← c.as_slice.ensures) c.index-as_slice-var.is in
    let stands = value_stands h v c.args.var c.args.rec c.args.i c.requires.header c.requires.value at in
    let records : is_record_var h.dims v ≡ true = rw (← c.as_slice-2.ensures) (sym c.is_in_records.ensures ∙ c.if-is_in_records.true) in
    let size : c.from.result ≡ value_size v.kind = c.from.ensures ∙ c.size_of_value.ensures.value in
    rw size (place_found h v c.args.var c.args.rec c.args.i _ stands.found (place_in_record h v c.args.rec c.args.i records))

pub overflow_add-result-2 : goal.overflow_add-result-2
overflow_add-result-2 c =
    let h = c.args.header.now in
    let v : HeadVar = c.index-as_slice-var.result in
    let at : v ≡ get_or h.vars c.args.var v = rw (← c.as_slice.ensures) c.index-as_slice-var.is in
    let stands = value_stands h v c.args.var c.args.rec c.args.i c.requires.header c.requires.value at in
    let records : is_record_var h.dims v ≡ false = rw (← c.as_slice-2.ensures) (sym c.is_in_records.ensures ∙ c.if-is_in_records.false) in
    let size : c.from.result ≡ value_size v.kind = c.from.ensures ∙ c.size_of_value.ensures.value in
    rw size (omega (arith, stands.alone records))

pub returns : goal.returns
returns c =
    let h = c.args.header.now in
    let v : HeadVar = c.index-as_slice-var.result in
    let at : v ≡ get_or h.vars c.args.var v = rw (← c.as_slice.ensures) c.index-as_slice-var.is in
    let stands = value_stands h v c.args.var c.args.rec c.args.i c.requires.header c.requires.value at in
    let records : is_record_var h.dims v ≡ false = rw (← c.as_slice-2.ensures) (sym c.is_in_records.ensures ∙ c.if-is_in_records.false) in
    let size : c.from.result ≡ value_size v.kind = c.from.ensures ∙ c.size_of_value.ensures.value in
    rw size (place_found h v c.args.var c.args.rec c.args.i _ stands.found (place_alone h v c.args.rec c.args.i records))
