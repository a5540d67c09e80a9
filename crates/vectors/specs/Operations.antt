-- Which operation of the language each pairing of the code is.
use Rattle.language.specs.Syntax.{Op, and, or, xor, sum, difference, equals, less}
use Rattle.vectors.specs.declared.Pairing.{Pairing}
use Rattle.vectors.specs.declared.Pairing.TheVariants.{And, Or, Xor, Sum, Difference, Equals, Less}

abbrev pub op_of : Pairing → Op
op_of And = and
op_of Or = or
op_of Xor = xor
op_of Sum = sum
op_of Difference = difference
op_of Equals = equals
op_of Less = less
