-- A decoded word, field by field.
-- Assumes nothing.
use Rattle.std.specs.Prelude.{ℕ, Bool, eqb, ltb}
use Rattle.arm.specs.declared.Ins.{Ins}
use Rattle.classes.specs.declared.Cond.{Cond}
use Rattle.classes.specs.Cond.{cond_no}
use Rattle.classes.specs.Fields.{bit, cond_of, rd_of, rn_of, rm_of}
use Rattle.modes.specs.Operands.{op2_of, addr_of, mode_of, target_of}
use Rattle.regsets.specs.Sets.{form_of, uses_of, defs_of, flags_of}
use Rattle.encodings.specs.Encodings.{encoding_of}
use Rattle.arm.specs.Naming.{class_of, regs_of}

-- a condition other than 1110 and 1111
abbrev pub is_conditional : Cond → Bool
is_conditional c = ltb (cond_no c) 14

-- the instruction that word w is at an address; sets and flag are those of the manual's instruction, whatever name the rules give it
unfoldable pub decode_of : ℕ → ℕ → Ins
decode_of w address =
    record {
      class = class_of w;
      cond = cond_of w;
      s = eqb (bit 20 w) 1;
      rd = rd_of w;
      rn = rn_of w;
      rm = rm_of w;
      op2 = op2_of w;
      addr = addr_of w;
      mode = mode_of w;
      regs = regs_of (class_of w) w;
      target = target_of w address;
      uses = uses_of (form_of (encoding_of w)) w;
      defs = defs_of (form_of (encoding_of w)) w;
      updates_condition_flags = flags_of (form_of (encoding_of w)) w;
    }
